use Rattle.std.proofs.Common.{length}
use Rattle.ap_plain.proofs.scene.+add_passes.Given as goal

abbrev pub decreases-add_passes : goal.decreases-add_passes
decreases-add_passes l = length l.flights.now
