use Rattle.std.proofs.Common.{length}
use Rattle.ap_flight.proofs.entry.+offered.Given as goal

abbrev pub decreases-offered : goal.decreases-offered
decreases-offered l = length l.list.now
