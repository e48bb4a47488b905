use Rattle.ap_eval.proofs.Keeping.{IsKeptTo}
use Rattle.ap_eval.proofs.bench.order_of.Given as goal

abbrev pub invariant-loop-net : goal.invariant-loop-net
invariant-loop-net l = IsKeptTo l.flat l.net-index l.order.items
