use Rattle.ap_net.proofs.Laws.{Yields-made}
use Rattle.ap_flight.proofs.entry.either.Goals as goal

pub returns-clause-yields : goal.returns-clause-yields
returns-clause-yields c = let net = c.in_ok-net.ensures in Yields-made _ _ _ _ _ net.reads net.wire net.net.0
