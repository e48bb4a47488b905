use Rattle.std.proofs.Common.{length}
use Rattle.ap_image.proofs.shape.+are_mems_named.Given as goal

abbrev pub decreases-are_mems_named : goal.decreases-are_mems_named
decreases-are_mems_named l = length l.mems.now
