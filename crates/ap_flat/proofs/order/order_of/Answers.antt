use Rattle.std.proofs.Common.{length, subst, arith}
use Rattle.ap_flat.specs.Drivers.{Reads}
use Rattle.ap_flat.specs.Searching.{IsSearch}
use Rattle.ap_flat.proofs.Searches.{all_done}
use Rattle.ap_flat.proofs.order.order_of.Goals as goal

pub returns-clause-order : goal.returns-clause-order
returns-clause-order c =
    all_done (Reads c.args.drivers.now) c.loop-root.search.marks.items c.loop-root.search.order.items (length c.args.drivers.now) c.loop-root.invariant.long
    (subst (λ p. IsSearch (Reads c.args.drivers.now) c.loop-root.search.marks.items p c.loop-root.search.order.items) c.loop-root.invariant.empty c.loop-root.invariant.search)
    (λ n lt. c.loop-root.invariant.done n (omega arith))
