use Rattle.std.proofs.Common.{ap, arith, length, rules}
use Rattle.std.proofs.lemmas.Grind.{common_steps}
use Rattle.ap_desc.specs.Chains.{ClosesLoop}
use Rattle.ap_ports.proofs.Members.{item_at}
use Rattle.ap_ports.proofs.Steps.{some_micro, under_begun, under_closes, under_ended, under_next, under_numbered, under_operands, under_room}
use Rattle.ap_ports.proofs.edges.add_edges.Goals as goal

pub loop-micro-init : goal.loop-micro-init
loop-micro-init c =
    under_begun c.args.design.now c.args.stage c.args.number c.as_slice-micro-items.result.now c.new-locals.result c.args.ways.now c.index-as_slice-number.result
    (item_at c.as_slice.result.now c.args.design.now.instrs c.args.number c.index-as_slice-number.result c.as_slice.ensures (omega (arith, ap length c.as_slice.ensures)) c.index-as_slice-number.is)
    c.as_slice-micro-items.ensures c.new-locals.ensures c.requires.so_far

pub add_line-requires-clause-operands : goal.add_line-requires-clause-operands
add_line-requires-clause-operands c =
    under_operands c.args.design.now c.requires.sound c.args.stage c.args.number c.as_slice-micro-items.result.now c.loop-micro.micro-index c.loop-micro.locals c.loop-micro.ways c.loop-micro.invariant _ c.loop-micro-test.true

pub add_line-requires-clause-numbered : goal.add_line-requires-clause-numbered
add_line-requires-clause-numbered c =
    under_numbered c.args.design.now c.requires.sound c.args.stage c.args.number c.as_slice-micro-items.result.now c.loop-micro.micro-index c.loop-micro.locals c.loop-micro.ways c.loop-micro.invariant _ c.loop-micro-test.true

pub returns-in_err-add_line-clause-closed : goal.returns-in_err-add_line-clause-closed
returns-in_err-add_line-clause-closed c =
    let closes : ClosesLoop c.args.design.now c.args.stage c.in_err-add_line.field-0.0 =
    under_closes c.args.design.now c.requires.sound c.args.stage c.args.number c.as_slice-micro-items.result.now c.loop-micro.micro-index c.loop-micro.locals c.loop-micro.ways c.loop-micro.invariant _ c.loop-micro-test.true
    c.in_err-add_line.field-0.0 c.in_err-add_line.ensures.closed in
    first_of (search rules, grind (arith, common_steps))

pub take-requires-clause-room : goal.take-requires-clause-room
take-requires-clause-room c =
    under_room c.args.design.now c.requires.sound c.args.stage c.args.number c.as_slice-micro-items.result.now c.loop-micro.micro-index c.loop-micro.locals c.loop-micro.ways c.loop-micro.invariant some_micro c.loop-micro-test.true

pub take-requires-clause-operands : goal.take-requires-clause-operands
take-requires-clause-operands c =
    under_operands c.args.design.now c.requires.sound c.args.stage c.args.number c.as_slice-micro-items.result.now c.loop-micro.micro-index c.loop-micro.locals c.loop-micro.ways c.loop-micro.invariant _ c.loop-micro-test.true

pub take-requires-clause-numbered : goal.take-requires-clause-numbered
take-requires-clause-numbered c =
    under_numbered c.args.design.now c.requires.sound c.args.stage c.args.number c.as_slice-micro-items.result.now c.loop-micro.micro-index c.loop-micro.locals c.loop-micro.ways c.loop-micro.invariant _ c.loop-micro-test.true

pub loop-micro-preserved : goal.loop-micro-preserved
loop-micro-preserved c =
    under_next c.args.design.now c.requires.sound c.args.stage c.args.number c.as_slice-micro-items.result.now c.loop-micro.micro-index c.loop-micro.locals c.loop-micro.ways c.loop-micro.invariant _ c.loop-micro-test.true
    c.take.new.self c.add_line.new.ways c.in_ok-add_line.ensures.ok c.take.ensures.assigns c.take.ensures.other

pub returns-clause-ok : goal.returns-clause-ok
returns-clause-ok c =
    under_ended c.args.design.now c.args.stage c.args.number c.as_slice-micro-items.result.now c.loop-micro.micro-index c.loop-micro.locals c.loop-micro.ways c.loop-micro-test.false c.loop-micro.invariant
