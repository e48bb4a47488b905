use Rattle.std.proofs.Common.{arith}
use Rattle.ap_pipe.proofs.Widest.{next_both, next_first, next_second}
use Rattle.ap_pipe.proofs.homes.slot_width.Goals as goal

pub returns-then-slot-list : goal.returns-then-slot-list
returns-then-slot-list c = next_first c.args.widths.now c.args.list.now c.args.slot (omega arith) (omega arith)

pub returns-then-slot-widths : goal.returns-then-slot-widths
returns-then-slot-widths c = next_second c.args.widths.now c.args.list.now c.args.slot _ (omega arith) (omega arith)

pub returns : goal.returns
returns c = rw c.max.ensures (next_both c.args.widths.now c.args.list.now c.args.slot _ (omega arith) (omega arith))
