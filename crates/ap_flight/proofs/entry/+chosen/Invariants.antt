use Rattle.std.proofs.Common.{length}
use Rattle.ap_flight.proofs.entry.+chosen.Given as goal

abbrev pub decreases-chosen : goal.decreases-chosen
decreases-chosen l = length l.list.now
