-- What a stage shows line by line is what its flight does, asks and waits for.
use Rattle.std.proofs.Common.{◌≡◌, ℕ, ◌+◌, ◌&&◌, ◌||◌, nat_lt, Bool, true, false, List, [], ◌∷◌, length, slice_index, Option, Some, None, refl, ap, sym, ◌∙◌}
use Rattle.std.proofs.lemmas.Bool.{and_parts}
use Rattle.std.specs.List.{list_any, range_with_len}
use Rattle.std.specs.Option.{option_map_or}
use Rattle.ap_bits.specs.declared.card.Card.{Card}
use Rattle.ap_desc.specs.Clean.{FitsCards}
use Rattle.ap_desc.specs.declared.design.Act.{Act}
use Rattle.ap_desc.specs.declared.design.Arg.{Arg}
use Rattle.ap_desc.specs.declared.design.Design.{Design}
use Rattle.ap_desc.specs.declared.design.Instr.{Instr}
use Rattle.ap_desc.specs.declared.design.Micro.{Micro}
use Rattle.ap_image.specs.declared.trace.TraceLine.{TraceLine}
use Rattle.ap_model.specs.declared.state.Flight.{Flight}
use Rattle.ap_model.specs.declared.storage.WritePort.{WritePort}
use Rattle.ap_model.specs.Cycles.{port_input}
use Rattle.ap_model.specs.Fire.{fire, instr_effect, instr_of, lines_in}
use Rattle.ap_model.specs.FlightLocals.{HasLocals, is_live, is_live_in}
use Rattle.ap_model.specs.LineForms.{ReadsLines, ReadsRight}
use Rattle.ap_model.specs.PortForms.{write_through}
use Rattle.ap_model.specs.Ports.{is_used_in}
use Rattle.ap_model.specs.Stalls.{has_memory_line, is_flight_busy}
use Rattle.ap_model.specs.UnitUse.{asks, is_busy_with, is_use_of, latency_of, unit_ask}
use Rattle.ap_model.proofs.MachineLaws.{asks_are_right, needs_its_units, readings_are_right}
use Rattle.ap_cycle.specs.Circuit.{AsksOfWord, ShowsAsked, ShowsBusyStage, ShowsLines, ShowsWord}
use Rattle.ap_cycle.specs.KeptStates.{HasFlight}
use Rattle.ap_cycle.specs.Signals.{Signals, is_stopped}
use Rattle.ap_cycle.proofs.Shown.{ShowsAsks, ShowsBusy, ShowsFlight, effect_of}

-- A word that matches no instruction.

no_live : (design : Design) (word stage i : ℕ) → instr_of design word ≡ None → is_live design word stage i ≡ true → ⊥
unfolding is_live
no_live design word stage i e alive = let never : false ≡ true = sym (ap (λ o. option_map_or (is_live_in design stage i) o false) e) ∙ alive in absurd cc

asks_none : (design : Design) (stage word unit : ℕ) → instr_of design word ≡ None → asks design stage word unit ≡ true → ⊥
unfolding asks
asks_none design stage word unit e asked =
    let uses = λ (o : Option Instr). option_map_or (λ (i : Instr). list_any (λ (m : Micro). is_use_of unit m.act) (lines_in stage i)) o false in
    let parts = and_parts (nat_lt 1 (latency_of design unit)) (uses (instr_of design word)) asked in
    let never : false ≡ true = sym (ap uses e) ∙ parts.1 in
    absurd cc

-- The values of operands that a stage shows look at the slots, which have the live locals of its flight.
slots_read : (design : Design) (cards : List Card) (inputs : TraceLine) (signals : Signals) (stage : ℕ) (flight : Flight) (instr : Instr) (counts : Act → Bool) (value : Arg → ℕ) → HasFlight design signals stage flight
    → ReadsLines design cards inputs signals.storages stage flight instr counts (signals.local stage) value → ReadsLines design cards inputs signals.storages stage flight instr counts (slice_index flight.locals) value
slots_read design cards inputs signals stage flight instr counts value there reads = record {
  field = reads.field;
  pc = reads.pc;
  link = reads.link;
  old = λ i alive. reads.old i alive ∙ there.locals i alive;
  new = reads.new;
}

-- What the flight does.

module _ (design : Design) (cards : List Card) (fits : FitsCards design cards) (inputs : TraceLine) (signals : Signals) (stage : ℕ) (flight : Flight) (has : HasLocals design stage flight) (there : HasFlight design signals stage flight) where
  right : (instr : Instr) (value : Arg → ℕ) → instr_of design flight.word ≡ Some instr → ShowsLines design cards inputs signals stage flight instr value → ReadsRight design cards inputs signals.storages stage flight instr value (effect_of design cards inputs signals stage flight)
  right instr value at shows = readings_are_right design cards fits inputs signals.storages stage flight instr value at has (slots_read design cards inputs signals stage flight instr (λ a. true) value there shows.reads)

  taken_right : (o : Option Instr) → instr_of design flight.word ≡ o → ShowsWord design cards inputs signals stage flight o → stage ≡ design.branch → signals.taken ≡ (effect_of design cards inputs signals stage flight).target
  unfolding fire
  taken_right None e s here = s.taken here ∙ sym (ap (λ o. (instr_effect design cards stage flight.place flight.word flight.locals signals.storages (port_input inputs) o).target) e)
  taken_right (Some instr) e s here = (s.1).taken here ∙ (right instr s.0 e s.1).target

  writes_right : (o : Option Instr) → instr_of design flight.word ≡ o → ShowsWord design cards inputs signals stage flight o → is_stopped design signals stage ≡ false → (p : WritePort) → is_used_in design stage p ≡ true
      → signals.write p ≡ write_through p (effect_of design cards inputs signals stage flight).writes
  unfolding fire
  writes_right None e s free p used = s.writes p used ∙ sym (ap (λ o. write_through p (instr_effect design cards stage flight.place flight.word flight.locals signals.storages (port_input inputs) o).writes) e)
  writes_right (Some instr) e s free p used = (s.1).writes free p used ∙ (right instr s.0 e s.1).writes p used

  left_right : (o : Option Instr) → instr_of design flight.word ≡ o → ShowsWord design cards inputs signals stage flight o → is_stopped design signals stage ≡ false → (i : ℕ) → is_live design flight.word (stage + 1) i ≡ true
      → signals.left stage i ≡ slice_index (effect_of design cards inputs signals stage flight).locals i
  left_right None e s free i alive = absurd (no_live design flight.word (stage + 1) i e alive)
  left_right (Some instr) e s free i alive = (s.1).left free i alive ∙ (right instr s.0 e s.1).left i alive

  unheld : (a b : Bool) → (a || b) ≡ false → a ≡ false
  unheld true b e = cc
  unheld false b e = refl

  pub flight_shown : signals.busy stage ≡ is_flight_busy design inputs.wait stage flight → (signals.hold stage ≡ false → ShowsWord design cards inputs signals stage flight (instr_of design flight.word)) → ShowsFlight design cards inputs signals stage flight
  flight_shown busy shows = record {
    busy = busy;
    taken = λ here free. taken_right (instr_of design flight.word) refl (shows free) here;
    writes = λ free p used. writes_right (instr_of design flight.word) refl (shows (unheld (signals.hold stage) _ free)) free p used;
    left = λ free i alive. left_right (instr_of design flight.word) refl (shows (unheld (signals.hold stage) _ free)) free i alive;
  }

  -- What it asks.

  pub flight_asks : (o : Option Instr) → instr_of design flight.word ≡ o → AsksOfWord design cards inputs signals stage flight o → (unit : ℕ) → asks design stage flight.word unit ≡ true → Some (signals.ask unit) ≡ unit_ask design cards inputs signals.storages stage flight unit
  flight_asks None e s unit asked = absurd (asks_none design stage flight.word unit e asked)
  flight_asks (Some instr) e s unit asked =
      (s.1).ask unit asked
      ∙ asks_are_right design cards fits inputs signals.storages stage flight instr s.0 unit e has (slots_read design cards inputs signals stage flight instr _ s.0 there (s.1).reads) asked

pub stage_asks : (design : Design) (cards : List Card) → FitsCards design cards → (inputs : TraceLine) (signals : Signals) (stage : ℕ) → ShowsAsked design cards inputs signals stage → ShowsAsks design cards inputs signals stage
stage_asks design cards fits inputs signals stage shows flight has there unit asked = flight_asks design cards fits inputs signals stage flight has there (instr_of design flight.word) refl (shows flight has there) unit asked

-- Whether it is busy.

module _ (design : Design) (signals : Signals) (stage : ℕ) (flight : Flight) (ages : (unit : ℕ) → asks design stage flight.word unit ≡ true → signals.age unit ≡ flight.waited) where
  same_with : (unit : ℕ) → (asks design stage flight.word unit && nat_lt (signals.age unit + 1) (latency_of design unit)) ≡ is_busy_with design stage flight unit
  same_with unit = go (asks design stage flight.word unit) refl
    where
      go : (b : Bool) → asks design stage flight.word unit ≡ b → (b && nat_lt (signals.age unit + 1) (latency_of design unit)) ≡ (b && nat_lt (flight.waited + 1) (latency_of design unit))
      go true e = ap (λ age. nat_lt (age + 1) (latency_of design unit)) (ages unit e)
      go false e = refl

none_of_units : (t : ℕ → Bool) → ((u : ℕ) → t u ≡ false) → (units : List ℕ) → list_any t units ≡ false
none_of_units t none [] = refl
none_of_units t none (u ∷ units) = (λ i. none u i || list_any t units) ∙ none_of_units t none units

waits_same : (w m : Bool) → (w && true && m) ≡ (w && m)
waits_same true m = refl
waits_same false m = refl

never_waits : (w m : Bool) → (w && false && m) ≡ false
never_waits true m = refl
never_waits false m = refl

-- a stage that is busy where one of its units is, or where it waits for a memory, is busy as the machine says
pub stage_busy : (design : Design) (inputs : TraceLine) (signals : Signals) (stage : ℕ) → ShowsBusyStage design inputs signals stage → ShowsBusy design inputs signals stage
stage_busy design inputs signals stage is = record {
  flight = λ flight has there.
      is
      ∙ (λ i. list_any (λ u. there.valid i && asks design stage (there.word i) u && nat_lt (signals.age u + 1) (latency_of design u)) (range_with_len 0 (length design.units)) || (inputs.wait && there.valid i && has_memory_line design stage (there.word i)))
      ∙ (λ i. list_any (λ u. same_with design signals stage flight there.ages u i) (range_with_len 0 (length design.units)) || waits_same inputs.wait (has_memory_line design stage flight.word) i)
      ∙ (λ i. sym (needs_its_units design stage flight) i || (inputs.wait && has_memory_line design stage flight.word));
  free = λ empty.
      is
      ∙ (λ i. list_any (λ u. empty i && asks design stage (signals.word stage) u && nat_lt (signals.age u + 1) (latency_of design u)) (range_with_len 0 (length design.units)) || (inputs.wait && empty i && has_memory_line design stage (signals.word stage)))
      ∙ (λ i. none_of_units (λ u. false && asks design stage (signals.word stage) u && nat_lt (signals.age u + 1) (latency_of design u)) (λ u. refl) (range_with_len 0 (length design.units)) i || never_waits inputs.wait (has_memory_line design stage (signals.word stage)) i);
}
