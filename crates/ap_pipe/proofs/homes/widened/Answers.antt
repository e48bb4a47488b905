use Rattle.std.proofs.Common.{arith, sym}
use Rattle.ap_pipe.specs.Ranks.{ranked_widths}
use Rattle.ap_pipe.proofs.Widest.{widths_end, widths_step}
use Rattle.ap_pipe.proofs.homes.widened.Goals as goal

pub loop-slot-preserved : goal.loop-slot-preserved
loop-slot-preserved c = rw c.in_ok-push.ensures.ok (widths_step c.args.widths.now (ranked_widths c.args.list.now) c.loop-slot.made _ c.loop-slot.slot c.slot_width.result c.loop-slot.invariant c.slot_width.ensures)

pub returns : goal.returns
returns c = sym (widths_end c.args.widths.now c.loop-slot.made _ c.args.list.now c.loop-slot.slot (omega arith) (omega arith) c.loop-slot.invariant)
