-- One cycle: signals that hold the machine's state before it hold its state after it, and show its row.
use Rattle.std.proofs.Common.{◌≡◌, ℕ, zero, suc, ◌+◌, ◌-◌, ◌≤◌, ◌<◌, ◌&&◌, Bool, true, false, if◌then◌else◌, IfSome, IsTrue, filter, leb-true, List, [], ◌∷◌, ◌++◌, length, map, reverse, ◌%◌, ◌^◌, flat_map, is_some, unwrap_or, slice_index, slice_index_or, Option, Some, None, option_map, option_and_then, option_to_list, refl, ap, sym, subst, ◌∙◌, arith, append_assoc, append-nil}
use Rattle.std.proofs.lemmas.Bool.{and_parts}
use Rattle.std.proofs.lemmas.List.{reverse-append}
use Rattle.std.specs.List.{range_with_len}
use Rattle.std.specs.Option.{option_map_or}
use Rattle.ap_bits.specs.declared.card.Card.{Card}
use Rattle.ap_desc.specs.Clean.{IsClean}
use Rattle.ap_desc.specs.Designs.{is_between}
use Rattle.ap_desc.specs.declared.design.Design.{Design}
use Rattle.ap_image.specs.declared.image.Image.{Image}
use Rattle.ap_image.specs.declared.trace.TraceLine.{TraceLine}
use Rattle.ap_model.specs.declared.state.StageEffect.{StageEffect}
use Rattle.ap_model.specs.declared.state.Entry.{Entry}
use Rattle.ap_model.specs.declared.state.Flight.{Flight}
use Rattle.ap_model.specs.declared.state.State.{State}
use Rattle.ap_model.specs.declared.storage.PortWrite.{PortWrite}
use Rattle.ap_model.specs.Cycles.{after_control, control_of, cycle, cycle_entries, cycle_flights, entering, entries_of, entry_of, fetched, flight_at, flight_effect, flight_entries, flights_from, from_last, gone_on, held_stages, leaving, port_input, staying, taken_transfer}
use Rattle.ap_model.specs.Fire.{fire}
use Rattle.ap_model.specs.declared.storage.WritePort.{WritePort}
use Rattle.ap_model.specs.Ports.{is_used_in, row_ports, write_ports}
use Rattle.ap_model.specs.ShownRows.{control_row, cycle_row, group_writes}
use Rattle.ap_model.specs.Stalls.{busy_from, is_flight_busy, is_held_stage}
use Rattle.ap_model.specs.Stored.{with_writes}
use Rattle.ap_cycle.specs.Circuit.{EachStage, Fetches, HoldsBusy, NextState, Passes, Stays}
use Rattle.ap_cycle.specs.KeptStates.{HasFlight, KeepsFrom, KeepsStage, KeepsState, is_asked}
use Rattle.ap_cycle.specs.Signals.{Signals, control, is_stopped, shown_row}
use Rattle.ap_model.specs.FlightLocals.{HasLocals, HaveLocals, is_live}
use Rattle.ap_model.specs.PortForms.{GoesThroughPorts, HasAll, all_writes, stage_writes}
use Rattle.ap_model.specs.UnitUse.{asks}
use Rattle.ap_cycle.proofs.Shown.{IsCycle, ShowsStage, effect_of}
use Rattle.ap_model.proofs.MachineLaws.{goes_by_ports, stage_writes_by_ports}

map_append : {X Y : Type 0} (f : X → Y) (xs ys : List X) → map f (xs ++ ys) ≡ map f xs ++ map f ys
map_append f [] ys = refl
map_append f (x ∷ xs) ys = ap (λ rest. f x ∷ rest) (map_append f xs ys)

flat_map_append : {X Y : Type 0} (f : X → List Y) (xs ys : List X) → flat_map f (xs ++ ys) ≡ flat_map f xs ++ flat_map f ys
flat_map_append f [] ys = refl
flat_map_append f (x ∷ xs) ys = ap (λ rest. f x ++ rest) (flat_map_append f xs ys) ∙ sym (append_assoc (f x) (flat_map f xs) (flat_map f ys))

-- what is written, without the numbers and stages
written : (stage number : ℕ) (writes : List PortWrite) → map (λ (e : Entry). e.write) (map (entry_of stage number) writes) ≡ writes
written stage number [] = refl
written stage number (w ∷ writes) = ap (λ rest. w ∷ rest) (written stage number writes)

one_less : (stage k n : ℕ) → stage + suc k ≤ n - 1 + 1 → stage ≤ n - 1
one_less stage k n h = omega (arith, h)

further : (stage k n : ℕ) → stage + suc k ≤ n - 1 + 1 → stage + 1 + k ≤ n - 1 + 1
further stage k n h = omega (arith, h)

later : (stage : ℕ) → 1 ≤ stage → 1 ≤ stage + 1
later stage h = omega (arith, h)

-- a filter before a list made of lists
flat_map_kept : {X Y : Type 0} (f : X → List Y) (t : X → Bool) → ((x : X) → t x ≡ true → f x ≡ []) → (xs : List X) → flat_map f (filter t xs) ≡ []
flat_map_kept f t none [] = refl
flat_map_kept f t none (x ∷ xs) = go (t x) refl (flat_map_kept f t none xs)
  where
    go : (b : Bool) → t x ≡ b → flat_map f (filter t xs) ≡ [] → flat_map f (if b then x ∷ filter t xs else filter t xs) ≡ []
    go true e rest = λ i. none x e i ++ rest i
    go false e rest = rest

branch_bounds : (branch last : ℕ) → IsTrue (is_between 1 last branch) → (1 ≤ branch) × (branch ≤ last)
branch_bounds branch last h = (leb-true _ _ (and_parts _ _ h).0, leb-true _ _ (and_parts _ _ h).1)

-- the transfer's stage is one of those from 1 on
pub branch_low : (design : Design) → IsClean design → 1 ≤ design.branch
branch_low design clean = (branch_bounds design.branch (design.stages - 1) clean.sound.within.branch).0

pub branch_high : (design : Design) → IsClean design → design.branch ≤ design.stages - 1
branch_high design clean = (branch_bounds design.branch (design.stages - 1) clean.sound.within.branch).1

module _ (design : Design) (cards : List Card) (inputs : TraceLine) (signals : Signals) (clean : IsClean design)
    (shows : EachStage design (ShowsStage design cards inputs signals)) where
  -- what is known of the flight of a stage, and of those from a stage on
  abbrev Stands : ℕ → Option Flight → Type 0
  Stands stage flight = KeepsStage design signals stage flight × IfSome flight (HasLocals design stage)

  abbrev StandFrom : ℕ → List (Option Flight) → Type 0
  StandFrom stage [] = Unit {0}
  StandFrom stage (flight ∷ flights) = Stands stage flight × StandFrom (stage + 1) flights

  stand_from : (stage : ℕ) (flights : List (Option Flight)) → KeepsFrom design signals stage flights → HaveLocals design stage flights → StandFrom stage flights
  stand_from stage [] holds fits = tt
  stand_from stage (flight ∷ flights) holds fits = ((holds.0, fits.0), stand_from (stage + 1) flights holds.1 fits.1)

  -- Which stages are busy.

  busy_at : (stage : ℕ) (flight : Option Flight) → ShowsStage design cards inputs signals stage → Stands stage flight
      → option_map_or (is_flight_busy design inputs.wait stage) flight false ≡ signals.busy stage
  busy_at stage None shown holds = sym (shown.free holds.0)
  busy_at stage (Some f) shown holds = sym ((shown.flight f holds.1 holds.0).busy)

  busy_same : (stage : ℕ) (flights : List (Option Flight)) → 1 ≤ stage → stage + length flights ≤ design.stages - 1 + 1 → StandFrom stage flights
      → busy_from design inputs.wait stage flights ≡ map signals.busy (range_with_len stage (length flights))
  busy_same stage [] low high holds = refl
  busy_same stage (flight ∷ flights) low high holds =
      let here = busy_at stage flight (shows stage low (one_less stage (length flights) design.stages high)) holds.0 in
      let rest = busy_same (stage + 1) flights (later stage low) (further stage (length flights) design.stages high) holds.1 in
      λ i. here i ∷ rest i

  -- the flight of a stage
  holds_at : (stage : ℕ) (flights : List (Option Flight)) (i : ℕ) → i < length flights → StandFrom stage flights → Stands (stage + i) (slice_index_or flights i None)
  holds_at stage [] i h holds = let none : ⊥ = omega (arith, h) in absurd none
  holds_at stage (flight ∷ flights) zero h holds = subst (λ s. Stands s flight) (omega arith) holds.0
  holds_at stage (flight ∷ flights) (suc i) h holds =
      subst (λ s. Stands s (slice_index_or flights i None)) (omega arith) (holds_at (stage + 1) flights i (omega (arith, h)) holds.1)

  -- What decides on the cycle.

  module _ (state : State) (holds : KeepsState design signals state) (fits : HaveLocals design 1 state.flights) where
    stand : StandFrom 1 state.flights
    stand = stand_from 1 state.flights holds.flights fits

    same_effect : (stage : ℕ) (flight : Flight) → effect_of design cards inputs signals stage flight ≡ flight_effect design cards inputs state stage flight
    same_effect stage flight = ap (λ storages. fire design cards stage flight.place flight.word flight.locals storages (port_input inputs)) holds.storages

    all_within : 1 + length state.flights ≤ design.stages - 1 + 1
    all_within = let count = holds.count in omega (arith, count)

    busy_all : busy_from design inputs.wait 1 state.flights ≡ map signals.busy (range_with_len 1 (design.stages - 1))
    busy_all = busy_same 1 state.flights (omega arith) all_within stand ∙ ap (λ n. map signals.busy (range_with_len 1 n)) holds.count

    module _ (hold : HoldsBusy design signals) where
      same_held : (stage : ℕ) → held_stages design inputs state stage ≡ signals.hold stage
      same_held stage = ap (λ busy. is_held_stage design busy stage) busy_all ∙ sym (hold stage)

      branch_holds : Stands design.branch (flight_at state design.branch)
      branch_holds =
          let count = holds.count in
          let low = branch_low design clean in
          let within = branch_high design clean in
          subst (λ s. Stands s (flight_at state design.branch)) (omega (arith, low)) (holds_at 1 state.flights (design.branch - 1) (omega (arith, count, low, within)) stand)

      taken_by : (b : Bool) → signals.hold design.branch ≡ b → (flight : Option Flight) → Stands design.branch flight
          → (if b then None else option_and_then (λ f. (flight_effect design cards inputs state design.branch f).target) flight) ≡ signals.taken
      taken_by true e flight there = sym ((shows design.branch (branch_low design clean) (branch_high design clean)).quiet.held refl e)
      taken_by false e None there = sym ((shows design.branch (branch_low design clean) (branch_high design clean)).quiet.untaken refl there.0)
      taken_by false e (Some f) there = sym (((shows design.branch (branch_low design clean) (branch_high design clean)).flight f there.1 there.0).taken refl e ∙ ap (λ (d : StageEffect). d.target) (same_effect design.branch f))

      same_taken : taken_transfer design cards inputs state ≡ signals.taken
      same_taken =
          ap (λ b. if b then None else option_and_then (λ f. (flight_effect design cards inputs state design.branch f).target) (flight_at state design.branch)) (same_held design.branch)
          ∙ taken_by (signals.hold design.branch) refl (flight_at state design.branch) branch_holds

      pub same_control : control_of design cards inputs state ≡ control signals
      unfolding control_of
      same_control = λ i. record { held = λ stage. same_held stage i; taken = same_taken i }

    -- The writes.

    unwritten : (stage : ℕ) → ((p : WritePort) → is_used_in design stage p ≡ true → signals.write p ≡ None) → stage_writes design signals.write stage ≡ []
    unwritten stage none = flat_map_kept (λ p. option_to_list (signals.write p)) (is_used_in design stage) (λ p used. ap option_to_list (none p used)) (write_ports design)

    stopped_writes : (b v : Bool) → v ≡ false → (if b then false else v) ≡ false
    stopped_writes true v e = refl
    stopped_writes false v e = e

    writes_by : (stage : ℕ) (flight : Flight) → ShowsStage design cards inputs signals stage → HasLocals design stage flight → HasFlight design signals stage flight → (b : Bool) → is_stopped design signals stage ≡ b
        → map (λ (e : Entry). e.write) (option_map_or (entries_of stage flight.number) (if b then None else Some (flight_effect design cards inputs state stage flight)) []) ≡ stage_writes design signals.write stage
    writes_by stage flight shown good there true e = sym (unwritten stage (shown.quiet.unwritten (ap (λ b. if b then false else signals.valid stage) e)))
    writes_by stage flight shown good there false e =
        written stage flight.number (flight_effect design cards inputs state stage flight).writes ∙ ap (λ (d : StageEffect). d.writes) (sym (same_effect stage flight))
        ∙ stage_writes_by_ports design cards signals.write clean stage flight.place flight.word flight.locals signals.storages (port_input inputs) ((shown.flight flight good there).writes e)

    writes_at : (stage : ℕ) (flight : Option Flight) → ShowsStage design cards inputs signals stage → Stands stage flight
        → map (λ (e : Entry). e.write) (option_map_or (flight_entries design cards inputs state (control signals) stage) flight []) ≡ stage_writes design signals.write stage
    writes_at stage None shown there = sym (unwritten stage (shown.quiet.unwritten (stopped_writes (is_stopped design signals stage) (signals.valid stage) there.0)))
    writes_at stage (Some f) shown there = writes_by stage f shown there.1 there.0 (is_stopped design signals stage) refl

    writes_from : (stage : ℕ) (flights : List (Option Flight)) → 1 ≤ stage → stage + length flights ≤ design.stages - 1 + 1 → StandFrom stage flights
        → map (λ (e : Entry). e.write) (from_last (flight_entries design cards inputs state (control signals)) stage flights) ≡ flat_map (stage_writes design signals.write) (reverse (range_with_len stage (length flights)))
    writes_from stage [] low high holds = refl
    writes_from stage (flight ∷ flights) low high holds =
        let told = flight_entries design cards inputs state (control signals) in
        let writes = stage_writes design signals.write in
        let stages = range_with_len (stage + 1) (length flights) in
        let rest = writes_from (stage + 1) flights (later stage low) (further stage (length flights) design.stages high) holds.1 in
        let here = writes_at stage flight (shows stage low (one_less stage (length flights) design.stages high)) holds.0 in
        map_append (λ (e : Entry). e.write) (from_last told (stage + 1) flights) (option_map_or (told stage) flight [])
        ∙ (λ i. rest i ++ here i)
        ∙ ap (λ ws. flat_map writes (reverse stages) ++ ws) (sym (append-nil (writes stage)))
        ∙ sym (flat_map_append writes (reverse stages) (stage ∷ []))
        ∙ ap (flat_map writes) (sym (reverse-append (stage ∷ []) stages))

    pub same_writes : map (λ (e : Entry). e.write) (cycle_entries design cards inputs state (control signals)) ≡ all_writes design signals.write
    unfolding cycle_entries
    same_writes = writes_from 1 state.flights (omega arith) all_within stand ∙ ap (λ n. flat_map (stage_writes design signals.write) (reverse (range_with_len 1 n))) holds.count

    -- The flights.

    module _ (next : Signals) (goes : NextState design signals next) (theirs : GoesThroughPorts design signals.write) where
      on : {stopped valid : Bool} → stopped ≡ false → valid ≡ true → (if stopped then false else valid) ≡ true
      on e v = λ i. if e i then false else v i

      passed : (stage : ℕ) (flight : Flight) → signals.hold (stage + 1) ≡ false → Passes design signals next stage → ShowsStage design cards inputs signals stage → HasLocals design stage flight → HasFlight design signals stage flight → (b : Bool) → is_stopped design signals stage ≡ b
          → KeepsStage design next (stage + 1) (option_map (gone_on flight) (if b then None else Some (flight_effect design cards inputs state stage flight)))
      passed stage flight free passes shown good there true e = passes.valid ∙ ap (λ b. if b then false else signals.valid stage) e
      passed stage flight free passes shown good there false e = record {
        valid = passes.valid ∙ ap (λ b. if b then false else signals.valid stage) e ∙ there.valid;
        word = passes.word (on e there.valid) ∙ there.word;
        place = passes.place (on e there.valid) ∙ there.place;
        locals = λ i keeps. passes.locals (on e there.valid) i (ap (λ w. is_live design w (stage + 1) i) there.word ∙ keeps) ∙ (shown.flight flight good there).left e i keeps ∙ ap (λ (d : StageEffect). slice_index d.locals i) (same_effect stage flight);
        ages = λ unit asked. goes.ages (stage + 1) unit (flight.word, asked) ∙ ap (λ b. if b && is_asked design signals (stage + 1) unit then signals.age unit + 1 else 0) free;
      }

      leaves : (stage : ℕ) (flight : Option Flight) → signals.hold (stage + 1) ≡ false → Passes design signals next stage → ShowsStage design cards inputs signals stage → Stands stage flight
          → KeepsStage design next (stage + 1) (leaving design cards inputs state (control signals) stage flight)
      leaves stage None free passes shown there = passes.valid ∙ stopped_writes (is_stopped design signals stage) (signals.valid stage) there.0
      leaves stage (Some f) free passes shown there = passed stage f free passes shown there.1 there.0 (is_stopped design signals stage) refl

      stays_there : (stage : ℕ) (flight : Option Flight) → signals.hold stage ≡ true → Stays design signals next stage → KeepsStage design signals stage flight → KeepsStage design next stage (option_map staying flight)
      stays_there stage None held stays there = stays.valid ∙ there
      stays_there stage (Some f) held stays there = record {
        valid = stays.valid ∙ there.valid;
        word = stays.word there.valid ∙ there.word;
        place = stays.place there.valid ∙ there.place;
        locals = λ i keeps. stays.locals there.valid i (ap (λ w. is_live design w stage i) there.word ∙ keeps) ∙ there.locals i keeps;
        ages = λ unit asked. goes.ages stage unit (f.word, asked) ∙ (λ i. if held i && (there.valid i && (ap (λ w. asks design stage w unit) there.word ∙ asked) i) then there.ages unit asked i + 1 else 0);
      }

      here_by : (stage : ℕ) (coming flight : Option Flight) → 1 ≤ stage → stage ≤ design.stages - 1 → (signals.hold stage ≡ false → KeepsStage design next stage coming) → KeepsStage design signals stage flight
          → (b : Bool) → signals.hold stage ≡ b → KeepsStage design next stage (if b then option_map staying flight else coming)
      here_by stage coming flight low within comes there true e = stays_there stage flight e (goes.stays stage low within e) there
      here_by stage coming flight low within comes there false e = comes e

      flights_go : (stage : ℕ) (coming : Option Flight) (flights : List (Option Flight)) → 1 ≤ stage → stage + length flights ≤ design.stages - 1 + 1
          → (stage ≤ design.stages - 1 → signals.hold stage ≡ false → KeepsStage design next stage coming) → StandFrom stage flights
          → KeepsFrom design next stage (flights_from design cards inputs state (control signals) stage coming flights)
      flights_go stage coming [] low high comes holds = tt
      flights_go stage coming (flight ∷ flights) low high comes holds =
          let within = one_less stage (length flights) design.stages high in (
            here_by stage coming flight low within (comes within) holds.0.0 (signals.hold stage) refl,
            flights_go (stage + 1) (leaving design cards inputs state (control signals) stage flight) flights (later stage low) (further stage (length flights) design.stages high)
                (λ inside free. leaves stage flight free (goes.passes stage inside free) (shows stage low within) holds.0) holds.1,
          )

      flights_length : (stage : ℕ) (coming : Option Flight) (flights : List (Option Flight)) → length (flights_from design cards inputs state (control signals) stage coming flights) ≡ length flights
      flights_length stage coming [] = refl
      flights_length stage coming (flight ∷ flights) = ap suc (flights_length (stage + 1) (leaving design cards inputs state (control signals) stage flight) flights)

      has_now : HasAll design signals.storages
      has_now = subst (HasAll design) (sym holds.storages) holds.has_all

      stores_all : next.storages ≡ with_writes signals.storages (all_writes design signals.write)
      stores_all = (goes_by_ports design signals.write clean theirs).storages signals.storages next.storages has_now goes.storages

      has_after : HasAll design next.storages
      has_after = record { regs = goes.storages.reg_count ∙ has_now.regs; files = goes.storages.file_count ∙ has_now.files; mems = goes.storages.mem_count ∙ has_now.mems }

      -- The word that is fetched.

      module _ (image : Image) (none_first : (word i : ℕ) → is_live design word 1 i ≡ false) (fetches : Fetches image signals) where
        enters_by : signals.hold 1 ≡ false → Passes design signals next 0 → (b : Bool) → is_stopped design signals 0 ≡ b → KeepsStage design next 1 (if b then None else Some (fetched image state))
        enters_by free passes true e = passes.valid ∙ ap (λ b. if b then false else signals.valid 0) e
        enters_by free passes false e = record {
          valid = passes.valid ∙ ap (λ b. if b then false else signals.valid 0) e ∙ fetches.valid;
          word = passes.word (on e fetches.valid) ∙ fetches.word ∙ ap (slice_index image.code) holds.pc;
          place = passes.place (on e fetches.valid) ∙ fetches.place ∙ holds.pc;
          locals = λ i keeps. let never : true ≡ false = sym keeps ∙ none_first (slice_index image.code state.pc) i in cc;
          ages = λ unit asked. goes.ages 1 unit (slice_index image.code state.pc, asked) ∙ ap (λ b. if b && is_asked design signals 1 unit then signals.age unit + 1 else 0) free;
        }

        -- the state after the cycle is held
        pub after : KeepsState design next (after_control design cards image inputs state (control signals))
        unfolding after_control cycle_flights
        after = record {
          pc = goes.pc ∙ ap (λ pc. if signals.hold 0 then pc else unwrap_or signals.taken ((pc + 1) % 2 ^ design.address)) holds.pc;
          storages = stores_all ∙ (λ i. with_writes (holds.storages i) (sym same_writes i));
          flights = flights_go 1 (entering design image state (control signals)) state.flights (omega arith) all_within
              (λ inside free. enters_by free (goes.passes 0 inside free) (is_stopped design signals 0) refl) stand;
          count = flights_length 1 (entering design image state (control signals)) state.flights ∙ holds.count;
          has_all = subst (HasAll design) (stores_all ∙ (λ i. with_writes (holds.storages i) (sym same_writes i))) has_after;
        }

-- one cycle
pub cycle_holds : (design : Design) (cards : List Card) (image : Image) (inputs : TraceLine) (signals next : Signals) (state : State) → ((word i : ℕ) → is_live design word 1 i ≡ false) → IsClean design
    → IsCycle design cards image inputs signals → NextState design signals next → KeepsState design signals state → HaveLocals design 1 state.flights → KeepsState design next (cycle design cards image inputs state)
unfolding cycle
cycle_holds design cards image inputs signals next state none_first clean is goes holds fits =
    let same = same_control design cards inputs signals clean is.stages state holds fits is.hold in
    subst (λ control. KeepsState design next (after_control design cards image inputs state control)) (sym same)
    (after design cards inputs signals clean is.stages state holds fits next goes is.theirs image none_first is.fetches)

pub row_shown : (design : Design) (cards : List Card) (image : Image) (inputs : TraceLine) (signals : Signals) (state : State) → IsClean design
    → IsCycle design cards image inputs signals → KeepsState design signals state → HaveLocals design 1 state.flights → shown_row design signals ≡ cycle_row design cards inputs state
unfolding cycle_row control_row
row_shown design cards image inputs signals state clean is holds fits =
    let same = same_control design cards inputs signals clean is.stages state holds fits is.hold in
    let writes = same_writes design cards inputs signals clean is.stages state holds fits in
    (λ i. record { stall = signals.hold 0; kill = is_some signals.taken; writes = sym (goes_by_ports design signals.write clean is.theirs).groups i })
    ∙ (λ i. record { stall = signals.hold 0; kill = is_some signals.taken; writes = group_writes 0 (row_ports design) (sym writes i) })
    ∙ ap (control_row design cards inputs state) (sym same)
