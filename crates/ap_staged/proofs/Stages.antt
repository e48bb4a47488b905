-- The stages that were made are stages of the design.
use Rattle.std.proofs.Common.{◌≡◌, ℕ, suc, ◌+◌, ◌-◌, List, Some, length, refl, sym, ap, subst, ◌∙◌, arith}
use Rattle.std.specs.Prelude.{slice_get, unwrap_or}
use Rattle.std.specs.Option.{option_map}
use Rattle.std.proofs.lemmas.Option.{slice_get-map}
use Rattle.ap_ctl.proofs.Beside.{EachPair-at}
use Rattle.ap_ctl.specs.Nets.{AreDecoded}
use Rattle.ap_flight.specs.declared.stage.StageRegisters.{StageRegisters}
use Rattle.ap_front.specs.Controlling.{words_of}
use Rattle.ap_front.specs.Driven.{at_stage, no_registers, no_slots}
use Rattle.ap_front.proofs.Flying.{flights_give_border, names_long, there}
use Rattle.ap_net.specs.declared.cell.Wire.{Wire}
use Rattle.ap_net.specs.Draft.{Extends}
use Rattle.ap_net.proofs.Laws.{Extends-trans}
use Rattle.ap_pipe.specs.declared.table.StageSlots.{StageSlots}
use Rattle.ap_values.specs.Served.{AreNamedSlots, IsNamedGround, ServedStagesAreOf}
use Rattle.ap_values.proofs.Slots.{flights_name_slots}
use Rattle.ap_built.specs.Front.{kept_in}
use Rattle.ap_staged.specs.Stages.{StagedAreOf, StagedStandOver}
use Rattle.ap_staged.proofs.Grounds.{grounds_named}
use Rattle.ap_staged.proofs.Ports.{ports_are_of, slow_ports_are_placed}
use Rattle.ap_staged.proofs.Served.{staged_served}

pub staged_are_of : ServedStagesAreOf → StagedAreOf
staged_are_of served knows cards design d modules table r comings f given nets banks p fits parts front placed files joins stage ground courses nodes low high m =
    let before : ℕ = stage - 1 in
    let here : before + 1 ≡ stage = omega arith in
    let next : suc before ≡ stage = omega arith in
    let slots : StageSlots = at_stage no_slots table.stages stage in
    let onward : Extends m.staged.begun d = Extends-trans m.staged.begun m.new d m.staged.grows m.later in
    let named : IsNamedGround design d stage ground = grounds_named design d stage slots m.shared m.own m.old m.staged.begun ground m.staged.first m.staged.begins onward m.named in
    let started = staged_served design stage slots m.choices m.supplies m.order p.modules m.shared m.own m.old m.new d ground courses nodes m.staged m.later in
    let count : length table.stages ≡ design.stages - 1 = front.flying.slots in
    let long : length r.stages ≡ length table.stages = names_long design d 1 table.stages r.stages front.flying.names.each in
    let q : StageRegisters = unwrap_or (slice_get r.stages before) no_registers in
    let at : slice_get r.stages before ≡ Some q = there r.stages before no_registers (omega arith) in
    let registers : at_stage no_registers r.stages stage ≡ q = ap (at_stage no_registers r.stages) (sym next) in
    let word : ground.word ≡ q.word = m.staged.begins.grounded.word ∙ m.over.word_is ∙ ap (λ (x : StageRegisters). x.word) registers in
    let word_at : slice_get given.words before ≡ Some q.word = ap (λ (ws : List Wire). slice_get ws before) front.words ∙ word_of r.stages before q at in
    let decoded : AreDecoded design d q.word m.own.conds = EachPair-at (AreDecoded design d) given.words nets.decoded front.controlled.control.decoded before q.word m.own.conds word_at m.over.conds_are in
    let conds : AreDecoded design d ground.word m.own.conds = subst (λ (w : Wire). AreDecoded design d w m.own.conds) (sym word) decoded in
    let gives = flights_give_border design d front.idata front.pc_from table.stages r comings front.flying in
    let held : AreNamedSlots d stage (gives.has.registers stage).slots = flights_name_slots design d gives.has before stage here high in
    let own : AreNamedSlots d stage m.own.slots = subst (AreNamedSlots d stage) (ap (λ (x : StageRegisters). x.slots) (gives.registers stage) ∙ sym m.over.slots_are) held in
    let ports = ports_are_of knows cards design d modules banks files p m.choices m.supplies m.order nodes fits parts placed joins m.supplied m.staged.ports in
    served design cards d modules files p.modules (kept_in design table.stages) stage ground slots.homes m.own.slots m.own.conds m.staged.begins.linked m.staged.begun m.new m.staged.first courses nodes
    fits.clean named started conds own (λ k i instr there live. refl) ports
  where
    word_of : (stages : List StageRegisters) (k : ℕ) (q : StageRegisters) → slice_get stages k ≡ Some q → slice_get (words_of stages) k ≡ Some q.word
    word_of stages k q at = slice_get-map (λ (x : StageRegisters). x.word) stages k ∙ ap (option_map (λ (x : StageRegisters). x.word)) at

pub staged_stand_over : StagedStandOver
staged_stand_over design d table r nets p stage ground courses nodes m = record {
  word_is = m.staged.begins.grounded.word ∙ m.over.word_is;
  place_is = m.staged.begins.grounded.place ∙ m.over.place_is;
  joins = slow_ports_are_placed design p m.choices m.supplies m.order nodes m.supplied m.staged.ports;
}
