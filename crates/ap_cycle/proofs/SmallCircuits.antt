-- The small circuit meets the border.
use Rattle.std.proofs.Common.{◌≡◌, ℕ, zero, suc, ◌+◌, ◌/◌, ◌%◌, ◌^◌, ◌≤◌, ◌<◌, ◌==◌, ◌&&◌, not, Bool, true, false, if◌then◌else◌, [], ◌∷◌, slice_get, slice_index, Option, Some, None, refl, ap, sym, subst, ◌∙◌, arith, rules, option_and_then}
use Rattle.std.proofs.lemmas.Bool.{both_ways}
use Rattle.std.proofs.lemmas.Bool.Decides.{nat_tests}
use Rattle.std.specs.List.{list_any}
use Rattle.std.specs.Option.{option_map_or}
use Rattle.ap_desc.proofs.Apart.{no_word_shared}
use Rattle.ap_desc.proofs.Behind.{none_closes, stable_operands}
use Rattle.ap_desc.specs.Clean.{FitsCards, HasDesignFault}
use Rattle.ap_desc.specs.declared.fault.Fault.{Fault}
use Rattle.ap_desc.specs.declared.fault.Fault.TheVariants as f
use Rattle.ap_desc.specs.declared.design.Act.{Act}
use Rattle.ap_desc.specs.declared.design.Arg.{Arg}
use Rattle.ap_desc.specs.declared.design.Instr.{Instr}
use Rattle.ap_desc.specs.declared.design.Micro.{Micro}
use Rattle.ap_image.specs.declared.image.Image.{Image}
use Rattle.ap_image.specs.declared.trace.Trace.{Trace}
use Rattle.ap_image.specs.declared.trace.TraceLine.{TraceLine}
use Rattle.ap_model.specs.declared.state.Flight.{Flight}
use Rattle.ap_model.specs.declared.storage.PortWrite.{PortWrite}
use Rattle.ap_model.specs.declared.storage.WritePort.{WritePort}
use Rattle.ap_model.specs.declared.storage.WritePort.TheVariants as port
use Rattle.ap_model.specs.Cycles.{inputs_at}
use Rattle.ap_model.specs.Examples.{set_instr, set_nop, setter}
use Rattle.ap_model.specs.Fire.{arg_value, instr_of, is_match, lines_in, write_of}
use Rattle.ap_model.specs.LineForms.{ReadsLines, flight_sight}
use Rattle.ap_model.specs.PortForms.{GoesThroughPorts, StoresWrites, line_write}
use Rattle.ap_model.specs.Ports.{writes_through}
use Rattle.ap_model.specs.Stalls.{has_memory_line, is_held_stage, is_memory_line}
use Rattle.ap_model.specs.States.{start_storages}
use Rattle.ap_model.specs.UnitUse.{asks}
use Rattle.ap_cycle.specs.Circuit.{AsksOfWord, HoldsBusy, IsCircuit, IsQuiet, NextState, Passes, ShowsAsked, ShowsBusyStage, ShowsFired, ShowsWord, Starts}
use Rattle.ap_cycle.specs.KeptStates.{HasFlight}
use Rattle.ap_cycle.specs.SmallCircuit.{SmallState, set_value, sets, small_circuit, small_next, small_signals, small_state, small_write}

-- the one stage from 1 on
one_stage : (P : ℕ → Type 0) → P 1 → (stage : ℕ) → 1 ≤ stage → stage ≤ 1 → P stage
one_stage P p stage low high = let same : 1 ≡ stage = omega (arith, low, high) in subst P same p

-- a word matches nothing, or NOP, or SET and not NOP
by_word : (G : Option Instr → Type 0) (word : ℕ) → (is_match word set_nop ≡ false → is_match word set_instr ≡ false → G None) → (is_match word set_nop ≡ true → G (Some set_nop))
    → (is_match word set_nop ≡ false → is_match word set_instr ≡ true → G (Some set_instr)) → G (instr_of setter word)
unfolding instr_of
by_word G word none nop set = go (is_match word set_nop) refl (is_match word set_instr) refl
  where
    go : (a : Bool) → is_match word set_nop ≡ a → (b : Bool) → is_match word set_instr ≡ b → G (if a then Some set_nop else if b then Some set_instr else None)
    go true e b f = nop e
    go false e true f = set e f
    go false e false f = none e f

no_asks : (stage word unit : ℕ) → asks setter stage word unit ≡ true → ⊥
unfolding asks
no_asks stage word unit e = cc

no_memory : (word : ℕ) → has_memory_line setter 1 word ≡ false
unfolding has_memory_line
no_memory word = by_word (λ o. option_map_or (λ (i : Instr). list_any (λ (m : Micro). is_memory_line m.act) (lines_in 1 i)) o false ≡ false) word (λ e f. refl) (λ e. refl) (λ e f. refl)

-- The register's port.

unset : (state : SmallState) → sets state ≡ false → (p : WritePort) → small_write state p ≡ None
unset state e (port.Register zero) = ap (λ b. if b then Some (record { port = port.Register 0; at = 0; value = set_value state }) else None) e
unset state e (port.Register (suc reg)) = refl
unset state e (port.Cell file number) = refl
unset state e (port.Memory mem) = refl

theirs : (state : SmallState) (p : WritePort) (w : PortWrite) → small_write state p ≡ Some w → w.port ≡ p
theirs state (port.Register zero) w e = go (sets state) e
  where
    go : (b : Bool) → (if b then Some (record { port = port.Register 0; at = 0; value = set_value state }) else None) ≡ Some w → w.port ≡ port.Register 0
    go true e = let is : record { port = port.Register 0; at = 0; value = set_value state } ≡ w = cc in sym (ap (λ (w : PortWrite). w.port) is)
    go false e = cc
theirs state (port.Register (suc reg)) w e = cc
theirs state (port.Cell file number) w e = cc
theirs state (port.Memory mem) w e = cc

goes_through : (state : SmallState) → GoesThroughPorts setter (small_write state)
goes_through state = record { theirs = theirs state; idle = idle }
  where
    idle : (p : WritePort) → list_any (λ (m : Micro). writes_through p m.act) set_instr.micros ≡ false → small_write state p ≡ None
    idle (port.Register zero) e = cc
    idle (port.Register (suc reg)) e = refl
    idle (port.Cell file number) e = refl
    idle (port.Memory mem) e = refl

-- From cycle to cycle.

takes : (state : SmallState) (b : Bool) → (if b then set_value state else state.reg) ≡ option_map_or (λ (w : PortWrite). w.value) (if b then Some (record { port = port.Register 0; at = 0; value = set_value state }) else None) state.reg
takes state true = refl
takes state false = refl

stores : (image : Image) (state : SmallState) → StoresWrites setter (small_write state) (small_signals image state).storages (small_signals image (small_next image state)).storages
stores image state = record {
  reg_count = refl;
  regs = regs;
  file_count = refl;
  cell_count = λ file. refl;
  cells = λ file index low. let none : ⊥ = omega (arith, low) in absurd none;
  mem_count = refl;
  mems = λ mem low. refl;
}
  where
    regs : (reg : ℕ) → reg < 1 → slice_index ((if sets state then set_value state else state.reg) ∷ []) reg ≡ option_map_or (λ (w : PortWrite). w.value) (small_write state (port.Register reg)) (slice_index (state.reg ∷ []) reg)
    regs zero low = takes state (sets state)
    regs (suc reg) low = let none : ⊥ = omega (arith, low) in absurd none

passes : (image : Image) (state : SmallState) → Passes setter (small_signals image state) (small_signals image (small_next image state)) 0
passes image state = record { valid = refl; word = λ on. refl; place = λ on. refl; locals = λ on i alive. refl }

small_step : (image : Image) (state : SmallState) → NextState setter (small_signals image state) (small_signals image (small_next image state))
small_step image state = record {
  pc = refl;
  storages = stores image state;
  ages = λ stage unit of_stage. refl;
  passes = λ stage low free. let same : 0 ≡ stage = omega (arith, low) in subst (Passes setter (small_signals image state) (small_signals image (small_next image state))) same (passes image state);
  stays = λ stage low high held. let never : false ≡ true = held in cc;
}

small_starts : (image : Image) → Starts setter image (small_circuit image 0)
unfolding start_storages
small_starts image = record { pc = refl; storages = refl; empty = one_stage (λ stage. (small_circuit image 0).valid stage ≡ false) refl; fresh = λ unit. refl }

small_hold : (image : Image) (state : SmallState) → HoldsBusy setter (small_signals image state)
unfolding is_held_stage
small_hold image state stage = refl

-- One cycle.

unmoved : (state : SmallState) → state.valid ≡ false → sets state ≡ false
unmoved state e = ap (λ v. v && not (is_match state.word set_nop) && is_match state.word set_instr) e

quiet : (image : Image) (state : SmallState) → IsQuiet setter (small_signals image state) 1
quiet image state = record { untaken = λ here empty. refl; held = λ here held. refl; unwritten = λ off p used. unset state (unmoved state off) p }

and_none : (a : Bool) → (a && false) ≡ false
and_none true = refl
and_none false = refl

busy : (image : Image) (state : SmallState) (inputs : TraceLine) → ShowsBusyStage setter inputs (small_signals image state) 1
busy image state inputs = sym (ap (λ m. inputs.wait && state.valid && m) (no_memory state.word) ∙ and_none (inputs.wait && state.valid))

-- The values of operands: a field's is that of the word, and there is no local.

abbrev seen : Image → SmallState → TraceLine → Flight → Instr → Arg → ℕ
seen image state inputs flight instr = arg_value (flight_sight setter [] inputs (small_signals image state).storages flight instr) []

reads_nop : (image : Image) (state : SmallState) (inputs : TraceLine) (flight : Flight) (counts : Act → Bool) → ReadsLines setter [] inputs (small_signals image state).storages 1 flight set_nop counts (λ i. 0) (seen image state inputs flight set_nop)
reads_nop image state inputs flight counts = record { field = λ i. refl; pc = refl; link = refl; old = λ i alive. refl; new = λ n m made counted. let never : None ≡ Some m = made in cc }

reads_set : (image : Image) (state : SmallState) (inputs : TraceLine) (flight : Flight) (counts : Act → Bool) → ReadsLines setter [] inputs (small_signals image state).storages 1 flight set_instr counts (λ i. 0) (seen image state inputs flight set_instr)
reads_set image state inputs flight counts = record { field = λ i. refl; pc = refl; link = refl; old = λ i alive. refl; new = λ n m made counted. let never : None ≡ Some m = made in cc }

asked : (image : Image) (state : SmallState) (inputs : TraceLine) → ShowsAsked setter [] inputs (small_signals image state) 1
asked image state inputs flight has there = by_word (AsksOfWord setter [] inputs (small_signals image state) 1 flight) flight.word (λ e f. tt)
    (λ e. (seen image state inputs flight set_nop, record { reads = reads_nop image state inputs flight _; ask = λ unit asks. absurd (no_asks 1 flight.word unit asks) }))
    (λ e f. (seen image state inputs flight set_instr, record { reads = reads_set image state inputs flight _; ask = λ unit asks. absurd (no_asks 1 flight.word unit asks) }))

module _ (image : Image) (state : SmallState) (flight : Flight) (there : HasFlight setter (small_signals image state) 1 flight) where
  same_match : (instr : Instr) → is_match state.word instr ≡ is_match flight.word instr
  same_match instr = ap (λ w. is_match w instr) there.word

  sets_by : (a b : Bool) → is_match flight.word set_nop ≡ a → is_match flight.word set_instr ≡ b → sets state ≡ (not a && b)
  sets_by a b e f = λ i. there.valid i && not ((same_match set_nop ∙ e) i) && (same_match set_instr ∙ f) i

  no_other : (reg : ℕ) → (0 == suc reg) ≡ false
  no_other reg = grind (arith, nat_tests)

  other : (reg : ℕ) → (suc reg == 0) ≡ false
  other reg = grind (arith, nat_tests)

  -- what the line of SET writes through each port
  set_writes : (inputs : TraceLine) → sets state ≡ true → (p : WritePort) → small_write state p ≡ line_write (seen image state inputs flight set_instr) p (lines_in 1 set_instr)
  set_writes inputs e (port.Register zero) =
      ap (λ b. if b then Some (record { port = port.Register 0; at = 0; value = set_value state }) else None) e ∙ (λ i. Some (record { port = port.Register 0; at = 0; value = (there.word i / 2 ^ 0) % 2 ^ 7 }))
  set_writes inputs e (port.Register (suc reg)) = sym (ap (λ b. option_and_then (λ (m : Micro). write_of (seen image state inputs flight set_instr) m.act) (if b then slice_get set_instr.micros 0 else None)) (other reg))
  set_writes inputs e (port.Cell file number) = refl
  set_writes inputs e (port.Memory mem) = refl

shown : (image : Image) (state : SmallState) (inputs : TraceLine) → ShowsFired setter [] inputs (small_signals image state) 1
shown image state inputs free flight has there = by_word (ShowsWord setter [] inputs (small_signals image state) 1 flight) flight.word
    (λ e f. record { taken = λ here. refl; writes = λ p used. unset state (sets_by image state flight there false false e f) p })
    (λ e. (
      seen image state inputs flight set_nop,
      record { reads = reads_nop image state inputs flight _; taken = λ here. refl; writes = λ on p used. unset state (sets_by image state flight there true _ e refl) p; left = λ on i alive. refl },
    ))
    (λ e f. (
      seen image state inputs flight set_instr,
      record { reads = reads_set image state inputs flight _; taken = λ here. refl; writes = λ on p used. set_writes image state flight there inputs (sets_by image state flight there false true e f) p; left = λ on i alive. refl },
    ))

pub small_is_circuit : (image : Image) (trace : Trace) (c : ℕ) → IsCircuit setter [] image trace c (small_circuit image)
small_is_circuit image trace c = record {
  starts = small_starts image;
  next = λ j below. let more : suc j ≡ j + 1 = omega arith in subst (λ k. NextState setter (small_circuit image j) (small_circuit image k)) more (small_step image (small_state image j));
  fetches = λ j below. record { valid = refl; place = refl; word = refl };
  writes = λ j below. goes_through (small_state image j);
  hold = λ j below. small_hold image (small_state image j);
  quiet = λ j below. one_stage (IsQuiet setter (small_circuit image j)) (quiet image (small_state image j));
  busy = λ j below proper. one_stage (ShowsBusyStage setter (inputs_at setter trace j) (small_circuit image j)) (busy image (small_state image j) (inputs_at setter trace j));
  asked = λ j below. one_stage (ShowsAsked setter [] (inputs_at setter trace j) (small_circuit image j)) (asked image (small_state image j) (inputs_at setter trace j));
  shown = λ j below proper. one_stage (ShowsFired setter [] (inputs_at setter trace j) (small_circuit image j)) (shown image (small_state image j) (inputs_at setter trace j));
}

-- Its design fits its cards, of which there is none.

setter_clean : (kind : Fault) (line : ℕ) → HasDesignFault setter kind line → ⊥
setter_clean f.Overlap line h = no_word_shared setter refl line h
setter_clean f.ChainLoop line h = none_closes 8 (λ n. 0) setter refl line h
setter_clean f.UnstableOperand line h = stable_operands 8 (λ n. true) setter refl line refl h
setter_clean _ line h = search (rules, both_ways)

pub setter_fits : FitsCards setter []
setter_fits = record { clean = record { sound = search rules; faultless = setter_clean }; of_cards = search rules }
