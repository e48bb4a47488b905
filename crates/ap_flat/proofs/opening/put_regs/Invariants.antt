use Rattle.std.proofs.Common.{◌≡◌, ◌++◌, map, take}
use Rattle.ap_net.specs.declared.net.RegNet.{RegNet}
use Rattle.ap_net.specs.Modules.{reg_net}
use Rattle.ap_flat.specs.Opening.{net_in}
use Rattle.ap_flat.proofs.opening.put_regs.Given as goal

abbrev pub invariant-loop-reg : goal.invariant-loop-reg
invariant-loop-reg l = l.nets.items ≡ l.fn.nets.items ++ map (λ (x : RegNet). net_in l.place.top l.place.part (reg_net x)) (take l.reg-index l.regs)
