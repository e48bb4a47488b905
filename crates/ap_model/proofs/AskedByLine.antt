-- With values that meet the equations of the quick lines, a unit is asked what the flight asks of it.
use Rattle.std.proofs.Common.{◌≡◌, ℕ, ◌==◌, nat_lt, not, slice_index, Bool, true, false, if◌then◌else◌, List, [], slice_get, Option, Some, None, refl, ap, sym, ◌∙◌, arith, eqb-true}
use Rattle.std.proofs.lemmas.Bool.{and_parts}
use Rattle.std.specs.Prelude.{Contains}
use Rattle.std.specs.List.{AllByRecursion as Each}
use Rattle.ap_bits.specs.declared.card.Card.{Card}
use Rattle.ap_desc.specs.Chains.{Reaches, operands_of}
use Rattle.ap_desc.specs.Clean.{FitsCards}
use Rattle.ap_desc.specs.StageFaults.{is_slow, is_unstable}
use Rattle.ap_desc.specs.declared.design.Act.{Act}
use Rattle.ap_desc.specs.declared.design.Act.TheVariants as act
use Rattle.ap_desc.specs.declared.design.Arg.{Arg}
use Rattle.ap_desc.specs.declared.design.Design.{Design}
use Rattle.ap_desc.specs.declared.design.Instr.{Instr}
use Rattle.ap_desc.specs.declared.design.Micro.{Micro}
use Rattle.ap_image.specs.declared.trace.TraceLine.{TraceLine}
use Rattle.ap_model.specs.declared.state.Flight.{Flight}
use Rattle.ap_model.specs.declared.storage.Storages.{Storages}
use Rattle.ap_model.specs.Cycles.{port_input}
use Rattle.ap_model.specs.Fire.{arg_value, fire, instr_effect, instr_of, lines_in}
use Rattle.ap_model.specs.Fitting.{lines_before}
use Rattle.ap_model.proofs.StageLemmas.{clean_is_runnable, word_is_good}
use Rattle.ap_model.specs.FlightLocals.{HasLocals}
use Rattle.ap_model.specs.LineForms.{ReadsLines, fired, flight_sight}
use Rattle.ap_model.specs.PortForms.{stage_value}
use Rattle.ap_model.specs.UnitUse.{Ask, AsksAreRight, act_ask, asks, instr_ask, is_quick, latency_of, lines_ask, unit_ask}
use Rattle.ap_desc.proofs.OnePort.{each_as}
use Rattle.ap_model.proofs.LineOrder.{widths_count}
use Rattle.ap_model.proofs.LinesFire.{fires_by_line}
use Rattle.ap_model.proofs.ListLemmas.{contains_each, each_in_stage, each_place, filter_map_each}
use Rattle.ap_model.proofs.Readings.{ReadsGood, operands_read}
use Rattle.ap_model.proofs.StableAsks.{found_in, line_stable, operand}

slow_unstable : (design : Design) (a : Act) → is_slow design a ≡ true → is_unstable design a ≡ true
slow_unstable design (act.Compute unit op a b) e = e
slow_unstable design (act.ReadIn input) e = refl
slow_unstable design (act.ReadMem mem at) e = refl
slow_unstable design _ e = cc

not_slow : (b : Bool) → (b ≡ true → ⊥) → b ≡ false
not_slow true h = absurd (h refl)
not_slow false h = refl

abbrev ask_if : Bool → ℕ → ℕ → ℕ → Option Ask
ask_if c op a b = if c then Some (record { sel = op; a = a; b = b }) else None

module _ (design : Design) (cards : List Card) (fits : FitsCards design cards) (inputs : TraceLine) (storages : Storages) (stage : ℕ) (flight : Flight) (has : HasLocals design stage flight)
    (unit : ℕ) (slow : nat_lt 1 (latency_of design unit) ≡ true) (instr : Instr) (at : instr_of design flight.word ≡ Some instr) (value : Arg → ℕ) (reads : ReadsLines design cards inputs storages stage flight instr (is_quick design) (slice_index flight.locals) value) where
  abbrev Good : Arg → Type 0
  Good x = (source : Micro) → Reaches instr stage x source → is_unstable design source.act ≡ true → ⊥

  good_reads : ReadsGood design cards inputs storages stage flight instr value Good
  good_reads = record {
    field = reads.field;
    pc = reads.pc;
    link = reads.link;
    old = reads.old;
    new = λ n m made good. reads.new n m made (ap not (not_slow (is_slow design m.act) (λ e. good m ([], made) (slow_unstable design m.act e))));
    closed = λ n m made good. (line_stable design cards instr stage flight.word flight.place storages (port_input inputs) (port_input inputs) m n made good).1;
  }

  abbrev after : List ℕ
  after = (fired design cards inputs storages stage flight).locals

  abbrev seen : Arg → ℕ
  seen = stage_value design cards stage flight.place flight.word flight.locals storages (port_input inputs) instr

  seen_is : (x : Arg) → arg_value (flight_sight design cards inputs storages flight instr) after x ≡ seen x
  unfolding fire
  seen_is x = ap (λ o. arg_value (flight_sight design cards inputs storages flight instr) (instr_effect design cards stage flight.place flight.word flight.locals storages (port_input inputs) o).locals x) at

  operands_of_slow : (m : Micro) → Contains instr.micros m → m.stage ≡ stage → is_slow design m.act ≡ true → Each (λ x. value x ≡ seen x) (operands_of m.act)
  operands_of_slow m there here is_slow =
      let good = word_is_good design cards flight.word instr (clean_is_runnable design cards fits) at in
      let number = has instr at in
      let widths = widths_count design instr (lines_before stage instr) in
      let stable = each_place Good (operands_of m.act)
      (λ k x low place. operand design cards fits inputs inputs storages stage flight unit has slow instr at (found_in design flight.word instr at) m there here is_slow k x low place) in
      each_as (λ x. value x ≡ arg_value (flight_sight design cards inputs storages flight instr) after x) (λ x. value x ≡ seen x) (λ x e. e ∙ seen_is x) (operands_of m.act)
      (operands_read design cards inputs storages stage flight instr value Good good_reads after (fires_by_line design cards fits inputs storages stage flight instr at has) good.order good.right.range at (omega (arith, number, widths)) m there here stable)

  ask_same : (m : Micro) → Contains instr.micros m → m.stage ≡ stage → act_ask value unit m.act ≡ act_ask seen unit m.act
  ask_same m there here = by_act m.act (operands_of_slow m there here)
    where
      by_act : (x : Act) → (is_slow design x ≡ true → Each (λ y. value y ≡ seen y) (operands_of x)) → act_ask value unit x ≡ act_ask seen unit x
      by_act (act.Compute u op a b) same = go (u == unit) refl
        where
          go : (c : Bool) → (u == unit) ≡ c → ask_if c op (value a) (value b) ≡ ask_if c op (seen a) (seen b)
          go false e = refl
          go true e =
              let slow_u : is_slow design (act.Compute u op a b) ≡ true = ap (λ k. nat_lt 1 (latency_of design k)) (eqb-true u unit e) ∙ slow in
              let both = same slow_u in
              λ i. Some (record { sel = op; a = both.0 i; b = both.1.0 i })
      by_act _ same = refl

  ask_right : lines_ask value unit (lines_in stage instr) ≡ unit_ask design cards inputs storages stage flight unit
  unfolding unit_ask
  ask_right =
      ap (λ l. slice_get l 0) (filter_map_each (λ (m : Micro). act_ask value unit m.act) (λ (m : Micro). act_ask seen unit m.act) (lines_in stage instr)
      (each_in_stage (λ (m : Micro). act_ask value unit m.act ≡ act_ask seen unit m.act) stage instr.micros (each_as (Contains instr.micros) (λ (m : Micro). m.stage ≡ stage → act_ask value unit m.act ≡ act_ask seen unit m.act) ask_same instr.micros (contains_each instr.micros))))
      ∙ sym (ap (instr_ask design cards inputs storages stage flight unit) at)

slow_of : (design : Design) (stage word unit : ℕ) → asks design stage word unit ≡ true → nat_lt 1 (latency_of design unit) ≡ true
unfolding asks
slow_of design stage word unit asked = (and_parts _ _ asked).0

pub asks_are_right : (design : Design) (cards : List Card) → FitsCards design cards → AsksAreRight design cards
asks_are_right design cards fits inputs storages stage flight instr value unit at has reads asked =
    ask_right design cards fits inputs storages stage flight has unit (slow_of design stage flight.word unit asked) instr at value reads
