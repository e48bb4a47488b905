-- Words, addresses and locals go on from cycle to cycle.
use Rattle.std.proofs.Common.{◌≡◌, ℕ, zero, suc, ◌+◌, ◌-◌, ◌<◌, ◌≤◌, ◌%◌, ◌^◌, List, length, Option, Some, None, Bool, true, false, refl, sym, ap, subst, ◌∙◌, arith}
use Rattle.std.specs.Prelude.{if◌then◌else◌, codes, slice_index}
use Rattle.std.specs.Option.{option_map_or}
use Rattle.ap_desc.specs.declared.design.Design.{Design}
use Rattle.ap_desc.specs.declared.design.Instr.{Instr}
use Rattle.ap_image.specs.declared.image.Image.{Image}
use Rattle.ap_image.specs.declared.trace.Trace.{Trace}
use Rattle.ap_model.specs.Fire.{instr_of}
use Rattle.ap_model.specs.FlightLocals.{is_live}
use Rattle.ap_net.specs.declared.cell.Wire.{Wire}
use Rattle.ap_net.specs.Outside.{Outside}
use Rattle.ap_net.specs.Readings.{Reading}
use Rattle.ap_net.proofs.Renumbered.{some_within}
use Rattle.ap_cycle.specs.Circuit.{EachStage, Passes, Stays}
use Rattle.ap_cycle.specs.Signals.{Signals, goes_on}
use Rattle.ap_signals.specs.NetRuns.{NetRun, held_value, pc_name, place_name, slot_name, taken_value, word_name}
use Rattle.ap_signals.specs.NetSignals.{by_stage, local_of, net_signals, slot_local}
use Rattle.ap_signals.proofs.NetMachine.{taken_is_held}
use Rattle.ap_ctl.specs.Border.{ValidGoesOn}
use Rattle.ap_ctl.specs.Building.{is_on}
use Rattle.ap_ctl.proofs.Beside.{EachFrom-at}
use Rattle.ap_flight.specs.Stages.{PassesOn, TakesNet}
use Rattle.ap_border.specs.Flights.{FlightsGo, FlightsGoOn, HoldsShown, IsSlotOf, RunsFlights}
use Rattle.ap_border.specs.Named.{IsRegisterRead, IsZeroNamed}
use Rattle.ap_border.proofs.ControlShown.{later_word}
use Rattle.ap_border.proofs.NamesRead.{names_are_read, registers_are_read}

abbrev pub stage_place : NetRun → ℕ → ℕ → ℕ
stage_place run j = by_stage (held_value run j pc_name) (λ stage. held_value run j (place_name stage))

pub later_place : (run : NetRun) (j stage : ℕ) → 1 ≤ stage → stage_place run j stage ≡ held_value run j (place_name stage)
later_place run j zero low = absurd (omega arith)
later_place run j (suc stage) low = refl

-- of two values that which a bit chooses
choice : (a b : Bool) (x x' y y' : ℕ) → a ≡ b → x ≡ x' → y ≡ y' → (if a then x else y) ≡ (if b then x' else y')
choice a b x x' y y' p q r = λ i. if p i then q i else r i

chosen_first : (b : Bool) (x y : ℕ) → b ≡ true → (if b then x else y) ≡ x
chosen_first true x y e = refl
chosen_first false x y e = cc

chosen_second : (b : Bool) (x y : ℕ) → b ≡ false → (if b then x else y) ≡ y
chosen_second true x y e = cc
chosen_second false x y e = refl

-- what an instruction's look-ups agree on
agree_at : (o : Option Instr) (f g : Instr → ℕ) → ((instr : Instr) → o ≡ Some instr → f instr ≡ g instr) → option_map_or f o 0 ≡ option_map_or g o 0
agree_at None f g h = refl
agree_at (Some instr) f g h = h instr refl

module _ (design : Design) (o : Outside) (image : Image) (trace : Trace) (run : NetRun) (c : ℕ) (reading : ℕ → Reading) (f : RunsFlights design o image trace run c reading) (j : ℕ) (lt : j < c)
    (holds : HoldsShown design f.draft f.has run reading j) (valid : EachStage design (ValidGoesOn design (net_signals design run j) (net_signals design run (j + 1)))) where
  abbrev now : Signals
  now = net_signals design run j

  abbrev next : Signals
  next = net_signals design run (j + 1)

  -- a register that takes a net
  register_read : (Means : Reading → ℕ → Type 0) (name : List ℕ) (register : Wire) → IsZeroNamed f.draft name register → (t : TakesNet f.draft Means register) → IsRegisterRead run c reading name 0 register t.from
  register_read Means name register begins t = registers_are_read f.draft f.modules run c reading f.read name 0 register t.from (record { begins = begins; next = t.next })

  passed_on : (name : List ℕ) (hold register w : Wire) → IsZeroNamed f.draft name register → TakesNet f.draft (PassesOn hold register w) register
      → held_value run (j + 1) name ≡ (if is_on (reading j) hold then held_value run j name else (reading j).read w.number)
  passed_on name hold register w begins t =
      let r = register_read (PassesOn hold register w) name register begins t in
      r.goes j lt ∙ t.carries.means.holds (reading j) (f.read.settled j lt) ∙ choice (is_on (reading j) hold) (is_on (reading j) hold) _ _ _ _ refl (sym (r.holds j lt)) refl

  -- the word and the address of the stage before
  word_before : (before : ℕ) → before ≤ design.stages - 1 → (reading j).read (by_stage f.has.fetched (λ s. (f.has.registers s).word) before).number ≡ now.word before
  word_before zero high = sym (names_are_read f.draft f.modules run c reading f.read (codes "idata") f.has.fetched f.has.fetched_named j lt)
  word_before (suc before) high =
      let h = f.has.each before (suc before) (let e : before + 1 ≡ suc before = omega arith in e) high in
      sym ((register_read _ (word_name (suc before)) (f.has.registers (suc before)).word h.word_named h.word_takes).holds j lt)

  place_before : (before : ℕ) → before ≤ design.stages - 1 → (reading j).read (by_stage f.has.pc (λ s. (f.has.registers s).place) before).number ≡ now.place before
  place_before zero high = sym ((registers_are_read f.draft f.modules run c reading f.read pc_name 0 f.has.pc f.has.pc_from f.has.pc_named).holds j lt)
  place_before (suc before) high =
      let h = f.has.each before (suc before) (let e : before + 1 ≡ suc before = omega arith in e) high in
      sym ((register_read _ (place_name (suc before)) (f.has.registers (suc before)).place h.place_named h.place_takes).holds j lt)

  word_goes : (before stage : ℕ) → before + 1 ≡ stage → stage ≤ design.stages - 1 → next.word stage ≡ (if now.hold stage then now.word stage else now.word before)
  word_goes before stage e high =
      let h = f.has.each before stage e high in
      let low : 1 ≤ stage = omega arith in
      later_word run (j + 1) stage low ∙ passed_on (word_name stage) (f.has.hold stage) (f.has.registers stage).word (by_stage f.has.fetched (λ s. (f.has.registers s).word) before) h.word_named h.word_takes
      ∙ choice (is_on (reading j) (f.has.hold stage)) (now.hold stage) _ _ _ _ (holds stage low high) (sym (later_word run j stage low)) (word_before before (omega arith))

  place_goes : (before stage : ℕ) → before + 1 ≡ stage → stage ≤ design.stages - 1 → next.place stage ≡ (if now.hold stage then now.place stage else now.place before)
  place_goes before stage e high =
      let h = f.has.each before stage e high in
      let low : 1 ≤ stage = omega arith in
      later_place run (j + 1) stage low ∙ passed_on (place_name stage) (f.has.hold stage) (f.has.registers stage).place (by_stage f.has.pc (λ s. (f.has.registers s).place) before) h.place_named h.place_takes
      ∙ choice (is_on (reading j) (f.has.hold stage)) (now.hold stage) _ _ _ _ (holds stage low high) (sym (later_place run j stage low)) (place_before before (omega arith))

  -- what is in the slots is what they took
  locals_pass : (stage i : ℕ) → next.word (stage + 1) ≡ now.word stage → next.local (stage + 1) i ≡ now.left stage i
  locals_pass stage i e =
      ap (λ word. local_of design run (held_value run (j + 1)) word (stage + 1) i) e
      ∙ agree_at (instr_of design (now.word stage)) (slot_local run (held_value run (j + 1)) (stage + 1) i) (slot_local run (taken_value run j) (stage + 1) i)
      (λ instr at. ap (λ n. n % 2 ^ slice_index instr.locals i) (taken_is_held o image trace c run f.runs j lt (slot_name (stage + 1) (run.home (stage + 1) instr i))))

  -- a slot of a held stage stays
  slot_stays : (before stage slot : ℕ) → before + 1 ≡ stage → stage ≤ design.stages - 1 → now.hold stage ≡ true → slot < length (f.has.registers stage).slots
      → held_value run (j + 1) (slot_name stage slot) ≡ held_value run j (slot_name stage slot)
  slot_stays before stage slot e high held inside =
      let h = f.has.each before stage e high in
      let low : 1 ≤ stage = omega arith in
      let found = some_within (f.has.registers stage).slots slot inside in
      let is : IsSlotOf f.draft (f.has.homes stage) (f.has.locals stage) (f.has.hold stage) stage (0 + slot) found.0 = EachFrom-at (IsSlotOf f.draft (f.has.homes stage) (f.has.locals stage) (f.has.hold stage) stage) 0 (f.has.registers stage).slots h.slots slot found.0 found.1 in
      let number : 0 + slot ≡ slot = omega arith in
      let r = register_read _ (slot_name stage (0 + slot)) found.0 is.named is.takes in
      subst (λ n. held_value run (j + 1) (slot_name stage n) ≡ held_value run j (slot_name stage n)) number
      (r.goes j lt ∙ (is.takes.carries.means.holds (reading j) (f.read.settled j lt)).stays (holds stage low high ∙ held) ∙ sym (r.holds j lt))

  locals_stay : (before stage i : ℕ) → before + 1 ≡ stage → stage ≤ design.stages - 1 → now.hold stage ≡ true → next.word stage ≡ now.word stage → is_live design (now.word stage) stage i ≡ true → next.local stage i ≡ now.local stage i
  locals_stay before stage i e high held same live =
      ap (λ word. local_of design run (held_value run (j + 1)) word stage i) same
      ∙ agree_at (instr_of design (now.word stage)) (slot_local run (held_value run (j + 1)) stage i) (slot_local run (held_value run j) stage i)
      (λ instr at. ap (λ n. n % 2 ^ slice_index instr.locals i)
      (slot_stays before stage (run.home stage instr i) e high held (f.homes stage i (now.word stage) instr (let low : 1 ≤ stage = omega arith in low) high at live)))

  passes : (stage : ℕ) → stage + 1 ≤ design.stages - 1 → now.hold (stage + 1) ≡ false → Passes design now next stage
  passes stage high free =
      let low : 1 ≤ stage + 1 = omega arith in
      let number : stage + 1 - 1 ≡ stage = omega arith in
      let word : next.word (stage + 1) ≡ now.word stage = word_goes stage (stage + 1) refl high ∙ chosen_second (now.hold (stage + 1)) _ _ free in
      record {
        valid = subst (λ n. next.valid (stage + 1) ≡ goes_on design now n) number ((valid (stage + 1) low high).passes free);
        word = λ on. word;
        place = λ on. place_goes stage (stage + 1) refl high ∙ chosen_second (now.hold (stage + 1)) _ _ free;
        locals = λ on i live. locals_pass stage i word;
      }

  stays : (stage : ℕ) → 1 ≤ stage → stage ≤ design.stages - 1 → now.hold stage ≡ true → Stays design now next stage
  stays stage low high held =
      let before : stage - 1 + 1 ≡ stage = omega arith in
      let word : next.word stage ≡ now.word stage = word_goes (stage - 1) stage before high ∙ chosen_first (now.hold stage) _ _ held in
      record {
        valid = (valid stage low high).stays held;
        word = λ on. word;
        place = λ on. place_goes (stage - 1) stage before high ∙ chosen_first (now.hold stage) _ _ held;
        locals = λ on i live. locals_stay (stage - 1) stage i before high held word live;
      }

  pub flights_go : FlightsGo design run j
  flights_go = record { passes = passes; stays = stays }

pub flights_go_on : FlightsGoOn
flights_go_on design o image trace run c reading f j lt holds valid = flights_go design o image trace run c reading f j lt holds valid
