use Rattle.ap_eval.proofs.Rooting.{AreRootsTo}
use Rattle.ap_eval.proofs.plan.roots_of.Given as goal

abbrev pub invariant-loop-net : goal.invariant-loop-net
invariant-loop-net l = AreRootsTo l.flat.drivers l.flat.order l.net-index l.roots.items
