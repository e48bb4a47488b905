use Rattle.std.proofs.Common.{arith}
use Rattle.ap_vr.proofs.BuildSteps.{registers_more}
use Rattle.ap_vr.proofs.building.registers.Goals as goal

pub loop-next-preserved : goal.loop-next-preserved
loop-next-preserved c = registers_more c.args.nexts.now c.loop-next.next-index c.next-item.result _ _ c.as_str.result.now c.loop-next.invariant (omega arith) c.next-item.is c.as_str.ensures c.in_ok-add.ensures.table
