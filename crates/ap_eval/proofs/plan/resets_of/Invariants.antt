use Rattle.std.proofs.Common.{◌≡◌, map, take}
use Rattle.ap_net.specs.declared.net.Next.{Next}
use Rattle.ap_net.specs.Flat.{reset_in}
use Rattle.ap_eval.proofs.plan.resets_of.Given as goal

abbrev pub invariant-loop-number : goal.invariant-loop-number
invariant-loop-number l = l.resets.items ≡ map (λ (x : Next). reset_in l.flat.net x.register.number) (take l.number l.flat.net.nexts)
