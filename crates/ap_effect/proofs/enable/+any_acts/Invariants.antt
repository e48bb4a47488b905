use Rattle.std.proofs.Common.{length}
use Rattle.ap_effect.proofs.enable.+any_acts.Given as goal

abbrev pub decreases-any_acts : goal.decreases-any_acts
decreases-any_acts l = length l.writers.now
