use Rattle.std.proofs.Common.{◌≡◌, ◌+◌, ◌++◌, map, take}
use Rattle.ap_net.specs.Modules.{assign_placed}
use Rattle.ap_flat.proofs.opening.put_assigns.Given as goal

abbrev pub invariant-loop-assign : goal.invariant-loop-assign
invariant-loop-assign l = l.out.items ≡ l.fn.out.items ++ map (assign_placed (λ n. l.base + n)) (take l.assign-index l.assigns)
