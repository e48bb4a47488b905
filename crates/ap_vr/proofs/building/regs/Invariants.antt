use Rattle.std.proofs.Common.{◌≡◌, map, take}
use Rattle.ap_vr.specs.Built.{reg_of}
use Rattle.ap_vr.proofs.building.regs.Given as goal

abbrev pub invariant-loop-reg : goal.invariant-loop-reg
invariant-loop-reg l = l.made.items ≡ map (reg_of l.nexts) (take l.reg-index l.said)
