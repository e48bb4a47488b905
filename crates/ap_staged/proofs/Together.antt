-- Each of the stages that were made one after another was made over its own registers and conditions.
use Rattle.std.proofs.Common.{◌≡◌, ℕ, suc, ◌+◌, ◌-◌, ◌<◌, List, Some, length, sym, ap, subst, ◌∙◌, arith}
use Rattle.std.specs.Prelude.{slice_get, unwrap_or}
use Rattle.std.proofs.lemmas.Option.{slice_get_within}
use Rattle.ap_desc.specs.declared.design.Design.{Design}
use Rattle.ap_net.specs.declared.cell.Wire.{Wire}
use Rattle.ap_net.specs.Draft.{Draft}
use Rattle.ap_net.proofs.Laws.{Extends-trans}
use Rattle.ap_net.proofs.Renumbered.{some_within}
use Rattle.ap_pipe.specs.declared.table.SlotTable.{SlotTable}
use Rattle.ap_pipe.specs.declared.table.StageSlots.{StageSlots}
use Rattle.ap_ctl.specs.declared.nets.ControlNets.{ControlNets}
use Rattle.ap_flight.specs.declared.stage.StageRegisters.{StageRegisters}
use Rattle.ap_front.specs.declared.registers.Registers.{Registers}
use Rattle.ap_front.specs.Driven.{at_stage, no_registers, no_slots}
use Rattle.ap_stages.specs.Own.{AreNetsOf, nets_of}
use Rattle.ap_stages.specs.Staged.{IsStaged}
use Rattle.ap_stages.specs.declared.begin.StageNets.{StageNets}
use Rattle.ap_stages.specs.declared.stage.ServedStage.{ServedStage}
use Rattle.ap_supply.specs.Supplies.{Placed}
use Rattle.ap_staged.specs.Stages.{IsOver, MakesStage}
use Rattle.ap_staged.specs.Together.{EachWasMade, MakesStages}

-- the nets of a stage at its place are its registers and its conditions
is_over : (registers : List StageRegisters) (decoded : List (List Wire)) (owns : List StageNets) (place : ℕ) (own : StageNets) → AreNetsOf registers decoded owns → length decoded ≡ length registers → slice_get owns place ≡ Some own
    → IsOver (unwrap_or (slice_get registers place) no_registers) decoded (place + 1) own
is_over registers decoded owns place own are many has =
    let inside : place < length owns = slice_get_within owns place own has in
    let long : length owns ≡ length registers = are.long in
    let (r, at) = some_within registers place (omega (arith, inside, long)) in
    let (conditions, there) = some_within decoded place (omega (arith, inside, long, many)) in
    let is : own ≡ nets_of r conditions = are.each place r conditions own at there has in
    let found : unwrap_or (slice_get registers place) no_registers ≡ r = ap (λ o. unwrap_or o no_registers) at in
    let before : place + 1 - 1 ≡ place = omega arith in
    subst (λ (x : StageRegisters). IsOver x decoded (place + 1) own) (sym found) (record {
      word_is = ap (λ (n : StageNets). n.word) is;
      place_is = ap (λ (n : StageNets). n.place) is;
      slots_are = ap (λ (n : StageNets). n.slots) is;
      conds_are = ap (slice_get decoded) before ∙ there ∙ ap (λ (n : StageNets). Some n.conds) (sym is);
    })

module _ (design : Design) (d : Draft) (table : SlotTable) (r : Registers) (nets : ControlNets) (p : Placed) (stages : List ServedStage) (h : MakesStages design d table r nets p stages) where
  made_at : (place : ℕ) (s : ServedStage) → slice_get stages place ≡ Some s → MakesStage design d table r nets p (place + 1) s.ground s.courses.items s.nodes.items
  made_at place s at =
      let m = h.staged.each place s at in
      let next : place + 1 ≡ suc place = omega arith in
      let slots : at_stage no_slots table.stages (place + 1) ≡ m.table = ap (at_stage no_slots table.stages) next ∙ ap (λ o. unwrap_or o no_slots) m.has_table in
      let registers : at_stage no_registers r.stages (place + 1) ≡ unwrap_or (slice_get r.stages place) no_registers = ap (at_stage no_registers r.stages) next in
      record {
        choices = h.choices;
        supplies = h.supplies;
        order = m.order;
        shared = h.shared;
        own = m.own;
        old = m.before;
        new = m.after;
        staged = subst (λ (t : StageSlots). IsStaged design (place + 1) t h.choices h.supplies m.order p.modules h.shared m.own m.before m.after s.ground s.courses.items s.nodes.items) (sym slots) m.staged;
        supplied = h.supplied;
        named = h.named;
        over = subst (λ (x : StageRegisters). IsOver x nets.decoded (place + 1) m.own) (sym registers) (is_over r.stages nets.decoded h.owns place m.own h.over h.decodes m.has_own);
        later = Extends-trans m.after h.new d m.ends.extends h.later;
      }

pub each_was_made : EachWasMade
each_was_made design d table r nets p stages h stage s low at =
    let here : stage - 1 + 1 ≡ stage = omega arith in
    subst (λ n. MakesStage design d table r nets p n s.ground s.courses.items s.nodes.items) here (made_at design d table r nets p stages h (stage - 1) s at)
