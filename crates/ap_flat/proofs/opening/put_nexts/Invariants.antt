use Rattle.std.proofs.Common.{◌≡◌, ◌+◌, ◌++◌, map, take}
use Rattle.ap_net.specs.Modules.{next_placed}
use Rattle.ap_flat.proofs.opening.put_nexts.Given as goal

abbrev pub invariant-loop-next : goal.invariant-loop-next
invariant-loop-next l = l.out.items ≡ l.fn.out.items ++ map (next_placed (λ n. l.base + n)) (take l.next-index l.nexts)
