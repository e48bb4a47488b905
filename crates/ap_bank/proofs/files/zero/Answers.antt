use Rattle.ap_net.proofs.Laws.{Yields-made}
use Rattle.ap_bank.proofs.Joined.{positive}
use Rattle.ap_bank.proofs.files.zero.Goals as goal

pub make-requires-clause-fits : goal.make-requires-clause-fits
make-requires-clause-fits c = positive c.args.width

pub returns-clause-yields : goal.returns-clause-yields
returns-clause-yields c = let net = c.in_ok-net.ensures in Yields-made _ _ _ _ _ net.reads net.wire net.net.0
