use Rattle.std.proofs.Common.{◌+◌, ap, arith, length}
use Rattle.ap_ports.proofs.FirstLines.{breaks_within, first_line_is, none_at_all, none_more}
use Rattle.ap_ports.proofs.LinePlaces.{read_at}
use Rattle.ap_ports.proofs.Members.{item_at}
use Rattle.ap_ports.proofs.first.first_in_instrs.Goals as goal

pub returns-in-Some : goal.returns-in-Some
returns-in-Some c =
    let at = item_at c.as_slice-instr-items.result.now c.args.design.now.instrs c.loop-instr.instr-index c.instr-item.result c.as_slice-instr-items.ensures (omega arith) c.instr-item.is in
    let first = c.in-Some.ensures in
    first_line_is c.args.design.now c.args.kind c.requires.sound c.loop-instr.instr-index c.instr-item.result at c.loop-instr.invariant c.in-Some.place _
    (read_at c.as_slice.result.now c.instr-item.result.micros c.as_slice.ensures c.in-Some.place _ (breaks_within c.args.design.now c.instr-item.result c.args.kind c.in-Some.place first.0)) first

pub loop-instr-preserved : goal.loop-instr-preserved
loop-instr-preserved c =
    let at = item_at c.as_slice-instr-items.result.now c.args.design.now.instrs c.loop-instr.instr-index c.instr-item.result c.as_slice-instr-items.ensures (omega arith) c.instr-item.is in
    none_more c.args.design.now c.args.kind c.loop-instr.instr-index c.instr-item.result at c.loop-instr.invariant c.in_default.ensures (c.loop-instr.instr-index + 1) (omega arith)

pub returns : goal.returns
returns c = none_at_all c.args.design.now c.args.kind c.loop-instr.instr-index (omega (arith, ap length c.as_slice-instr-items.ensures)) c.loop-instr.invariant
