use Rattle.std.proofs.Common.{length}
use Rattle.ap_plain.proofs.run.+add_group_writes.Given as goal

abbrev pub decreases-add_group_writes : goal.decreases-add_group_writes
decreases-add_group_writes l = length l.ports.now
