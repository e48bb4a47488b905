use Rattle.std.proofs.Common.{length}
use Rattle.ap_plain.proofs.scene.+add_samples.Given as goal

abbrev pub decreases-add_samples : goal.decreases-add_samples
decreases-add_samples l = length l.flights.now
