use Rattle.std.proofs.Common.{◌∙◌, ap, arith, length, sym}
use Rattle.std.proofs.lemmas.Bool.{both_ways}
use Rattle.ap_ports.specs.Firsts.{IsUnsteady}
use Rattle.ap_ports.proofs.LinePlaces.{none_there}
use Rattle.ap_ports.proofs.Steps.{kept_next, numbered_there, operands_there, room_there, some_micro, steady_more, unsteady_first}
use Rattle.ap_ports.proofs.flow.first_unsteady.Goals as goal
use Rattle.ap_ports.proofs.flow.first_unsteady.Goals.{then-is_slow+else-is_unsteady, else-is_slow}

pub is_unsteady-requires : goal.is_unsteady-requires
is_unsteady-requires c =
    operands_there c.args.design.now c.requires.sound c.args.instr.now c.requires.instr c.as_slice-micro-items.result.now c.as_slice-micro-items.ensures c.loop-place.place _ (omega arith)

pub returns-then-is_unsteady : goal.returns-then-is_unsteady
returns-then-is_unsteady c =
    unsteady_first c.args.design.now c.requires.sound c.args.instr.now c.requires.instr c.as_slice-micro-items.result.now c.as_slice-micro-items.ensures c.loop-place.place _ (omega arith)
    c.loop-place.locals c.loop-place.invariant.kept c.loop-place.invariant.none (sym c.is_slow.ensures ∙ c.if-is_slow.true) (c.is_unsteady.ensures.0 c.if-is_unsteady.true)

pub take-requires-clause-room : goal.take-requires-clause-room
take-requires-clause-room c =
    room_there c.args.design.now c.requires.sound c.args.instr.now c.requires.instr c.as_slice-micro-items.result.now c.as_slice-micro-items.ensures c.loop-place.place some_micro (omega arith)
    c.loop-place.locals c.loop-place.invariant.kept

pub take-requires-clause-operands : goal.take-requires-clause-operands
take-requires-clause-operands c =
    operands_there c.args.design.now c.requires.sound c.args.instr.now c.requires.instr c.as_slice-micro-items.result.now c.as_slice-micro-items.ensures c.loop-place.place _ (omega arith)

pub take-requires-clause-numbered : goal.take-requires-clause-numbered
take-requires-clause-numbered c =
    numbered_there c.args.design.now c.requires.sound c.args.instr.now c.requires.instr c.as_slice-micro-items.result.now c.as_slice-micro-items.ensures c.loop-place.place _ (omega arith)

pub loop-place-preserved : goal.loop-place-preserved
loop-place-preserved c = record {
  kept =
      kept_next c.args.design.now c.requires.sound c.args.instr.now c.requires.instr c.as_slice-micro-items.result.now c.as_slice-micro-items.ensures c.loop-place.place _ (omega arith)
      c.loop-place.locals c.loop-place.invariant.kept c.take.new.self c.take.ensures.assigns c.take.ensures.other;
  none = elim c.if-is_slow.branch [
    | then-is_slow+else-is_unsteady w ↦
        steady_more c.args.design.now c.requires.sound c.args.instr.now c.requires.instr c.as_slice-micro-items.result.now c.as_slice-micro-items.ensures c.loop-place.place _ (omega arith)
        c.loop-place.locals c.loop-place.invariant.kept c.loop-place.invariant.none (λ slow shaky. both_ways w.is_unsteady.result w.if-is_unsteady.false (w.is_unsteady.ensures.1 shaky))
    | else-is_slow w ↦
        steady_more c.args.design.now c.requires.sound c.args.instr.now c.requires.instr c.as_slice-micro-items.result.now c.as_slice-micro-items.ensures c.loop-place.place _ (omega arith)
        c.loop-place.locals c.loop-place.invariant.kept c.loop-place.invariant.none (λ slow shaky. both_ways c.is_slow.result w.if-is_slow.false (c.is_slow.ensures ∙ slow))
  ];
}

pub returns : goal.returns
returns c =
    none_there c.args.instr.now.micros (IsUnsteady c.args.design.now c.args.instr.now) c.loop-place.place (omega (arith, ap length c.as_slice-micro-items.ensures)) c.loop-place.invariant.none
