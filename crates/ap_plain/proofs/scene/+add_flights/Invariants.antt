use Rattle.std.proofs.Common.{length}
use Rattle.ap_plain.proofs.scene.+add_flights.Given as goal

abbrev pub decreases-add_flights : goal.decreases-add_flights
decreases-add_flights l = length l.flights.now
