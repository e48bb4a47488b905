use Rattle.std.proofs.Common.{None, ap, arith, length, replicate, subst, sym}
use Rattle.ap_ports.specs.Numbered.{AreNumbered}
use Rattle.ap_ports.proofs.Elsewhere.{instr_step, noted_all}
use Rattle.ap_ports.proofs.Members.{item_at}
use Rattle.ap_ports.proofs.Numbered.{sound_numbered}
use Rattle.ap_ports.proofs.first.first_stages.Goals as goal

pub note_stages-requires-clause-numbered : goal.note_stages-requires-clause-numbered
note_stages-requires-clause-numbered c =
    let at = item_at c.as_slice-instr-items.result.now c.args.design.now.instrs c.loop-instr.instr-index c.instr-item.result c.as_slice-instr-items.ensures (omega arith) c.instr-item.is in
    subst AreNumbered (sym c.as_slice.ensures) (sound_numbered c.args.design.now c.requires c.loop-instr.instr-index c.instr-item.result at)

pub loop-instr-preserved : goal.loop-instr-preserved
loop-instr-preserved c =
    let at = item_at c.as_slice-instr-items.result.now c.args.design.now.instrs c.loop-instr.instr-index c.instr-item.result c.as_slice-instr-items.ensures (omega arith) c.instr-item.is in
    instr_step (replicate 153 None) c.loop-instr.stages c.note_stages.new.stages c.args.design.now.instrs c.loop-instr.instr-index c.instr-item.result c.as_slice.result.now at c.as_slice.ensures c.loop-instr.invariant c.note_stages.ensures

pub returns : goal.returns
returns c = noted_all c.args.design.now c.loop-instr.stages c.loop-instr.instr-index (omega (arith, ap length c.as_slice-instr-items.ensures)) c.loop-instr.invariant
