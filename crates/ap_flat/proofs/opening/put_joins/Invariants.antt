use Rattle.std.proofs.Common.{◌≡◌, ◌+◌, ◌++◌, drop}
use Rattle.ap_net.specs.Flat.{joins_from}
use Rattle.ap_flat.proofs.opening.put_joins.Given as goal

abbrev pub invariant-loop-i : goal.invariant-loop-i
invariant-loop-i l = l.out.items ++ joins_from (l.base + l.i) (drop l.i l.drives) (drop l.i l.nets) ≡ l.fn.out.items ++ joins_from l.base l.drives l.nets
