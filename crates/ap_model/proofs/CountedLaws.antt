-- The machine in which each flight counts its own waiting is the one with a single count, while a busy stage holds all stages.
use Rattle.std.proofs.Common.{◌≡◌, ℕ, zero, suc, ◌+◌, ◌-◌, ◌||◌, ◌&&◌, nat_lt, max, if◌then◌else◌, Bool, true, false, List, [], ◌∷◌, ◌++◌, map, option_map, option_and_then, slice_index_or, fold, replicate, is_some, Option, Some, None, refl, ap, sym, ◌∙◌, arith, append-nil}
use Rattle.std.proofs.lemmas.Bool.Decides.{nat_tests}
use Rattle.std.specs.List.{list_any}
use Rattle.ap_bits.specs.declared.card.Card.{Card}
use Rattle.ap_desc.specs.declared.design.Design.{Design}
use Rattle.ap_image.specs.declared.image.Image.{Image}
use Rattle.ap_image.specs.declared.trace.Trace.{Trace}
use Rattle.ap_image.specs.declared.trace.TraceLine.{TraceLine}
use Rattle.ap_model.specs.declared.state.Entry.{Entry}
use Rattle.ap_model.specs.declared.state.Flight.{Flight}
use Rattle.ap_model.specs.declared.state.Pass.{Pass}
use Rattle.ap_model.specs.declared.state.Sample.{Sample}
use Rattle.ap_model.specs.declared.state.State.{State}
use Rattle.ap_model.specs.declared.storage.WritePort.{WritePort}
use Rattle.ap_model.specs.Cycles.{CycleControl, after_control, control_of, cycle, cycle_entries, cycle_flights, cycle_passes, cycle_samples, effect_in, entering, fetched, flight_at, flight_effect, flights_from, from_last, inputs_at, is_killed, kept, leaving, next_number, next_pc, over, unkilled_numbers}
use Rattle.ap_model.specs.OneCount.{Counted, as_state, counted_cycle, counted_over, counted_row_of, free_control, greatest_need, is_memory_used, is_stalled, waiting, IsSameMachine}
use Rattle.ap_model.specs.ShownRows.{control_row, cycle_row, group_writes, row}
use Rattle.ap_model.specs.Ports.{row_ports}
use Rattle.ap_model.specs.Stalls.{busy_from, has_memory_line, is_held_stage, need}
use Rattle.ap_model.specs.States.{start}
use Rattle.ap_model.specs.Stored.{with_writes}

-- every flight with this count
abbrev all_waiting : ℕ → List (Option Flight) → List (Option Flight)
all_waiting held flights = map (option_map (waiting held)) flights

-- the state with this count at every flight
abbrev waiting_state : ℕ → State → State
waiting_state held state = record state { flights = all_waiting held state.flights }

-- Whether some stage is busy.

below_max : (n a b : ℕ) → nat_lt n (max a b) ≡ (nat_lt n a || nat_lt n b)
below_max n a b = grind (arith, nat_tests)

not_below_one : (n : ℕ) → nat_lt (n + 1) 1 ≡ false
not_below_one n = grind (arith, nat_tests)

false_or : (a b : Bool) → a ≡ false → (a || b) ≡ b
false_or a b e = ap (λ x. x || b) e

regrouped : (p q w m n : Bool) → ((p || (w && m)) || (q || (w && n))) ≡ ((p || q) || (w && (m || n)))
regrouped true q w m n = refl
regrouped false true true true n = refl
regrouped false false true true n = refl
regrouped false true true false n = refl
regrouped false false true false n = refl
regrouped false true false m n = refl
regrouped false false false m n = refl

and_false : (w : Bool) → (w && false) ≡ false
and_false true = refl
and_false false = refl

busy_some : (design : Design) (wait : Bool) (held stage : ℕ) (flights : List (Option Flight))
    → list_any (λ b. b) (busy_from design wait stage (all_waiting held flights)) ≡ (nat_lt (held + 1) (greatest_need design stage flights) || (wait && is_memory_used design stage flights))
busy_some design wait held stage [] = sym (false_or _ _ (not_below_one held) ∙ and_false wait)
busy_some design wait held stage (None ∷ flights) =
    busy_some design wait held (stage + 1) flights
    ∙ ap (λ b. b || (wait && is_memory_used design (stage + 1) flights)) (sym (below_max (held + 1) 1 (greatest_need design (stage + 1) flights) ∙ false_or _ _ (not_below_one held)))
busy_some design wait held stage (Some flight ∷ flights) =
    ap (λ b. (nat_lt (held + 1) (need design stage flight.word) || (wait && has_memory_line design stage flight.word)) || b) (busy_some design wait held (stage + 1) flights)
    ∙ regrouped (nat_lt (held + 1) (need design stage flight.word)) (nat_lt (held + 1) (greatest_need design (stage + 1) flights)) wait (has_memory_line design stage flight.word) (is_memory_used design (stage + 1) flights)
    ∙ ap (λ b. b || (wait && (has_memory_line design stage flight.word || is_memory_used design (stage + 1) flights))) (sym (below_max (held + 1) (need design stage flight.word) (greatest_need design (stage + 1) flights)))

-- What is told of the flights doesn't look at their counts.

same_told : {X : Type 0} (told : ℕ → Flight → List X) (held : ℕ) → ((stage : ℕ) (flight : Flight) → told stage (waiting held flight) ≡ told stage flight)
    → (stage : ℕ) (flights : List (Option Flight)) → from_last told stage (all_waiting held flights) ≡ from_last told stage flights
same_told told held same stage [] = refl
same_told told held same stage (None ∷ flights) = ap (λ xs. xs ++ []) (same_told told held same (stage + 1) flights)
same_told told held same stage (Some flight ∷ flights) = λ i. same_told told held same (stage + 1) flights i ++ same stage flight i

pub nothing_told : {X : Type 0} (told : ℕ → Flight → List X) → ((stage : ℕ) (flight : Flight) → told stage flight ≡ []) → (stage : ℕ) (flights : List (Option Flight)) → from_last told stage flights ≡ []
nothing_told told none stage [] = refl
nothing_told told none stage (None ∷ flights) = ap (λ xs. xs ++ []) (nothing_told told none (stage + 1) flights)
nothing_told told none stage (Some flight ∷ flights) = λ i. nothing_told told none (stage + 1) flights i ++ none stage flight i

-- the flight of a stage
same_at : (held : ℕ) (flights : List (Option Flight)) (i : ℕ) → slice_index_or (all_waiting held flights) i None ≡ option_map (waiting held) (slice_index_or flights i None)
same_at held [] i = refl
same_at held (flight ∷ flights) zero = refl
same_at held (flight ∷ flights) (suc i) = same_at held flights i

-- what decides on a cycle: all stages are held or none, and a transfer is taken only where none is
abbrev control_by : Bool → Option ℕ → CycleControl
control_by stalled taken = record { held = λ stage. stalled; taken = if stalled then None else taken }

same_taken : (design : Design) (cards : List Card) (inputs : TraceLine) (held : ℕ) (state : State) (flight : Option Flight)
    → option_and_then (λ f. (flight_effect design cards inputs (waiting_state held state) design.branch f).target) (option_map (waiting held) flight)
    ≡ option_and_then (λ f. (flight_effect design cards inputs state design.branch f).target) flight
same_taken design cards inputs held state None = refl
same_taken design cards inputs held state (Some flight) = refl

same_control : (design : Design) (cards : List Card) (inputs : TraceLine) (counted : Counted)
    → control_of design cards inputs (as_state counted) ≡ control_by (is_stalled design inputs counted) (free_control design cards inputs counted.state).taken
unfolding control_of is_held_stage
same_control design cards inputs counted =
    let busy = busy_some design inputs.wait counted.held 1 counted.state.flights in
    let transfer : option_and_then (λ f. (flight_effect design cards inputs (as_state counted) design.branch f).target) (flight_at (as_state counted) design.branch) ≡ (free_control design cards inputs counted.state).taken =
    ap (option_and_then (λ f. (flight_effect design cards inputs (as_state counted) design.branch f).target)) (same_at counted.held counted.state.flights (design.branch - 1))
    ∙ same_taken design cards inputs counted.held counted.state (flight_at counted.state design.branch) in
    λ i. record { held = λ stage. busy i; taken = if busy i then None else transfer i }

-- A cycle in which no stage is held.

same_leaving : (design : Design) (cards : List Card) (inputs : TraceLine) (held : ℕ) (state : State) (control : CycleControl) (stage : ℕ) (flight : Option Flight)
    → leaving design cards inputs (waiting_state held state) control stage (option_map (waiting held) flight) ≡ leaving design cards inputs state control stage flight
same_leaving design cards inputs held state control stage None = refl
same_leaving design cards inputs held state control stage (Some flight) = refl

same_flights : (design : Design) (cards : List Card) (inputs : TraceLine) (held : ℕ) (state : State) (taken : Option ℕ) (stage : ℕ) (coming : Option Flight) (flights : List (Option Flight))
    → flights_from design cards inputs (waiting_state held state) (control_by false taken) stage coming (all_waiting held flights) ≡ flights_from design cards inputs state (control_by false taken) stage coming flights
same_flights design cards inputs held state taken stage coming [] = refl
same_flights design cards inputs held state taken stage coming (flight ∷ flights) =
    let control = control_by false taken in
    ap (λ next. coming ∷ flights_from design cards inputs (waiting_state held state) control (stage + 1) next (all_waiting held flights)) (same_leaving design cards inputs held state control stage flight)
    ∙ ap (λ rest. coming ∷ rest) (same_flights design cards inputs held state taken (stage + 1) (leaving design cards inputs state control stage flight) flights)

-- flights that go on have waited for no cycle
fresh_effect : (design : Design) (cards : List Card) (inputs : TraceLine) (state : State) (control : CycleControl) (stage : ℕ) (flight : Option Flight)
    → option_map (waiting 0) (leaving design cards inputs state control stage flight) ≡ leaving design cards inputs state control stage flight
fresh_effect design cards inputs state control stage None = refl
fresh_effect design cards inputs state control stage (Some flight) = elim (effect_in design cards inputs state control stage flight) as (λ d. option_map (waiting 0) (option_map (λ x. record flight { locals = x.locals; waited = 0 }) d) ≡ option_map (λ x. record flight { locals = x.locals; waited = 0 }) d) [ None ↦ refl | Some d ↦ refl ]

fresh_flights : (design : Design) (cards : List Card) (inputs : TraceLine) (state : State) (taken : Option ℕ) (stage : ℕ) (coming : Option Flight) (flights : List (Option Flight))
    → option_map (waiting 0) coming ≡ coming
    → all_waiting 0 (flights_from design cards inputs state (control_by false taken) stage coming flights) ≡ flights_from design cards inputs state (control_by false taken) stage coming flights
fresh_flights design cards inputs state taken stage coming [] fresh = refl
fresh_flights design cards inputs state taken stage coming (flight ∷ flights) fresh =
    let control = control_by false taken in
    let rest = fresh_flights design cards inputs state taken (stage + 1) (leaving design cards inputs state control stage flight) flights (fresh_effect design cards inputs state control stage flight) in
    λ i. fresh i ∷ rest i

fresh_if : (b : Bool) (flight : Flight) → flight.waited ≡ 0 → option_map (waiting 0) (if b then None else Some flight) ≡ (if b then None else Some flight)
fresh_if true flight e = refl
fresh_if false flight e = λ i. Some (record flight { waited = sym e i })

same_entries : (design : Design) (cards : List Card) (inputs : TraceLine) (held : ℕ) (state : State) (control : CycleControl)
    → cycle_entries design cards inputs (waiting_state held state) control ≡ cycle_entries design cards inputs state control
unfolding cycle_entries
same_entries design cards inputs held state control = same_told _ held (λ stage flight. refl) 1 state.flights

same_samples : (design : Design) (cards : List Card) (inputs : TraceLine) (held : ℕ) (state : State) (control : CycleControl)
    → cycle_samples design cards inputs (waiting_state held state) control ≡ cycle_samples design cards inputs state control
unfolding cycle_samples
same_samples design cards inputs held state control = same_told _ held (λ stage flight. refl) 1 state.flights

same_passes : (design : Design) (held : ℕ) (state : State) (control : CycleControl) → cycle_passes design (waiting_state held state) control ≡ cycle_passes design state control
unfolding cycle_passes
same_passes design held state control = same_told _ held (λ stage flight. refl) 1 state.flights

same_next : (design : Design) (held : ℕ) (state : State) (control : CycleControl) → next_number design (waiting_state held state) control ≡ next_number design state control
same_next design held state control =
    let numbers : unkilled_numbers design (waiting_state held state) control ≡ unkilled_numbers design state control =
    ap (λ ns. ns ++ (if control.held 0 || is_killed design control 0 then [] else state.next ∷ [])) (same_told _ held (λ stage flight. refl) 1 state.flights) in
    ap (λ ns. if is_some control.taken then fold max 0 ns + 1 else if control.held 0 then state.next else state.next + 1) numbers

step_free : (design : Design) (cards : List Card) (image : Image) (inputs : TraceLine) (held : ℕ) (state : State) (taken : Option ℕ)
    → after_control design cards image inputs (waiting_state held state) (control_by false taken) ≡ waiting_state 0 (after_control design cards image inputs state (control_by false taken))
unfolding after_control cycle_flights
step_free design cards image inputs held state taken =
    let control = control_by false taken in
    let entries = same_entries design cards inputs held state control in
    let samples = same_samples design cards inputs held state control in
    let passes = same_passes design held state control in
    let next = same_next design held state control in
    let coming = entering design image state control in
    let flights = same_flights design cards inputs held state taken 1 coming state.flights
    ∙ sym (fresh_flights design cards inputs state taken 1 coming state.flights (fresh_if (is_killed design control 0) (fetched image state) refl)) in
    λ i. record {
      pc = next_pc design state control;
      storages = with_writes state.storages (map (λ (e : Entry). e.write) (entries i));
      flights = flights i;
      next = next i;
      log = state.log ++ entries i;
      sampled = kept (λ (s : Sample). s.number) control (next i) (state.sampled ++ samples i);
      passes = kept (λ (p : Pass). p.number) control (next i) (state.passes ++ passes i);
    }

-- A cycle in which all stages are held.

no_entries : (design : Design) (cards : List Card) (inputs : TraceLine) (state : State) (taken : Option ℕ) → cycle_entries design cards inputs state (control_by true taken) ≡ []
unfolding cycle_entries
no_entries design cards inputs state taken = nothing_told _ (λ stage flight. refl) 1 state.flights

no_samples : (design : Design) (cards : List Card) (inputs : TraceLine) (state : State) (taken : Option ℕ) → cycle_samples design cards inputs state (control_by true taken) ≡ []
unfolding cycle_samples
no_samples design cards inputs state taken = nothing_told _ (λ stage flight. refl) 1 state.flights

no_passes : (design : Design) (state : State) (taken : Option ℕ) → cycle_passes design state (control_by true taken) ≡ []
unfolding cycle_passes
no_passes design state taken = nothing_told _ (λ stage flight. refl) 1 state.flights

staying_flights : (design : Design) (cards : List Card) (inputs : TraceLine) (held : ℕ) (state : State) (taken : Option ℕ) (stage : ℕ) (coming : Option Flight) (flights : List (Option Flight))
    → flights_from design cards inputs (waiting_state held state) (control_by true taken) stage coming (all_waiting held flights) ≡ all_waiting (held + 1) flights
staying_flights design cards inputs held state taken stage coming [] = refl
staying_flights design cards inputs held state taken stage coming (None ∷ flights) = ap (λ rest. None ∷ rest) (staying_flights design cards inputs held state taken (stage + 1) None flights)
staying_flights design cards inputs held state taken stage coming (Some flight ∷ flights) =
    ap (λ rest. Some (waiting (held + 1) flight) ∷ rest) (staying_flights design cards inputs held state taken (stage + 1) None flights)

step_stalled : (design : Design) (cards : List Card) (image : Image) (inputs : TraceLine) (held : ℕ) (state : State) (taken : Option ℕ)
    → after_control design cards image inputs (waiting_state held state) (control_by true taken) ≡ waiting_state (held + 1) state
unfolding after_control cycle_flights with_writes
step_stalled design cards image inputs held state taken =
    let entries = no_entries design cards inputs (waiting_state held state) taken in
    let samples = no_samples design cards inputs (waiting_state held state) taken in
    let passes = no_passes design (waiting_state held state) taken in
    let log = ap (λ xs. state.log ++ xs) entries ∙ append-nil state.log in
    let sampled = ap (λ xs. state.sampled ++ xs) samples ∙ append-nil state.sampled in
    let passed = ap (λ xs. state.passes ++ xs) passes ∙ append-nil state.passes in
    let flights = staying_flights design cards inputs held state taken 1 None state.flights in
    λ i. record {
      pc = state.pc;
      storages = with_writes state.storages (map (λ (e : Entry). e.write) (entries i));
      flights = flights i;
      next = state.next;
      log = log i;
      sampled = sampled i;
      passes = passed i;
    }

-- One cycle, and all of them.

step_by : (design : Design) (cards : List Card) (image : Image) (inputs : TraceLine) (counted : Counted) (b : Bool)
    → after_control design cards image inputs (as_state counted) (control_by b (free_control design cards inputs counted.state).taken)
    ≡ as_state (if b then record counted { held = counted.held + 1 } else record { held = 0; state = after_control design cards image inputs counted.state (free_control design cards inputs counted.state) })
step_by design cards image inputs counted true = step_stalled design cards image inputs counted.held counted.state (free_control design cards inputs counted.state).taken
step_by design cards image inputs counted false = step_free design cards image inputs counted.held counted.state (free_control design cards inputs counted.state).taken

same_cycle : (design : Design) (cards : List Card) (image : Image) (inputs : TraceLine) (counted : Counted)
    → cycle design cards image inputs (as_state counted) ≡ as_state (counted_cycle design cards image inputs counted)
unfolding cycle counted_cycle
same_cycle design cards image inputs counted =
    ap (λ control. after_control design cards image inputs (as_state counted) control) (same_control design cards inputs counted)
    ∙ step_by design cards image inputs counted (is_stalled design inputs counted)

empty_stages : (n : ℕ) → replicate n None ≡ all_waiting 0 (replicate n None)
empty_stages zero = refl
empty_stages (suc n) = ap (λ rest. None ∷ rest) (empty_stages n)

same_states : (design : Design) (cards : List Card) (image : Image) (trace : Trace) (c : ℕ) → over design cards image trace c ≡ as_state (counted_over design cards image trace c)
unfolding over counted_over start
same_states design cards image trace zero = λ i. record (start design image) { flights = empty_stages (design.stages - 1) i }
same_states design cards image trace (suc c) =
    ap (cycle design cards image (inputs_at design trace c)) (same_states design cards image trace c)
    ∙ same_cycle design cards image (inputs_at design trace c) (counted_over design cards image trace c)

no_writes : (group : ℕ) (ports : List WritePort) → group_writes group ports [] ≡ []
no_writes group [] = refl
no_writes group (port ∷ ports) = no_writes (group + 1) ports

row_by : (design : Design) (cards : List Card) (inputs : TraceLine) (counted : Counted) (b : Bool)
    → control_row design cards inputs (as_state counted) (control_by b (free_control design cards inputs counted.state).taken)
    ≡ (if b then record { stall = true; kill = false; writes = [] } else control_row design cards inputs counted.state (free_control design cards inputs counted.state))
unfolding control_row
row_by design cards inputs counted true =
    let none = ap (λ (es : List Entry). group_writes 0 (row_ports design) (map (λ (e : Entry). e.write) es)) (no_entries design cards inputs (as_state counted) (free_control design cards inputs counted.state).taken) ∙ no_writes 0 (row_ports design) in
    λ i. record { stall = true; kill = false; writes = none i }
row_by design cards inputs counted false =
    let control = free_control design cards inputs counted.state in
    let entries = same_entries design cards inputs counted.held counted.state control in
    λ i. record { stall = false; kill = is_some control.taken; writes = group_writes 0 (row_ports design) (map (λ (e : Entry). e.write) (entries i)) }

same_rows : (design : Design) (cards : List Card) (image : Image) (trace : Trace) (j : ℕ) → row design cards image trace j ≡ counted_row_of design cards (inputs_at design trace j) (counted_over design cards image trace j)
unfolding row cycle_row counted_row_of
same_rows design cards image trace j =
    let inputs = inputs_at design trace j in
    let counted = counted_over design cards image trace j in
    ap (cycle_row design cards inputs) (same_states design cards image trace j)
    ∙ ap (λ control. control_row design cards inputs (as_state counted) control) (same_control design cards inputs counted)
    ∙ row_by design cards inputs counted (is_stalled design inputs counted)

pub same_machine : (design : Design) (cards : List Card) (image : Image) (trace : Trace) → IsSameMachine design cards image trace
same_machine design cards image trace = record { states = same_states design cards image trace; rows = same_rows design cards image trace }
