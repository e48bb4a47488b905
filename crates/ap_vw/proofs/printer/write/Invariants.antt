use Rattle.std.proofs.Common.{◌+◌, length, if◌then◌else◌}
use Rattle.ap_net.specs.Text.{netlist_text}
use Rattle.ap_vw.proofs.Written.{IsWrittenSoFar}
use Rattle.ap_vw.proofs.printer.write.Given as goal

abbrev pub invariant-loop-more : goal.invariant-loop-more
invariant-loop-more l = IsWrittenSoFar (netlist_text l.net) l.fn.out.items l.printer l.more l.out.items

abbrev pub decreases-loop-more : goal.decreases-loop-more
decreases-loop-more l = length l.printer + (if l.more then 1 else 0)
