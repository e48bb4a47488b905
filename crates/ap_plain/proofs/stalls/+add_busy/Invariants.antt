use Rattle.std.proofs.Common.{length}
use Rattle.ap_plain.proofs.stalls.+add_busy.Given as goal

abbrev pub decreases-add_busy : goal.decreases-add_busy
decreases-add_busy l = length l.flights.now
