use Rattle.std.proofs.Common.{◌≡◌, ◌++◌, map, take}
use Rattle.ap_vr.specs.Nets.{reg_form}
use Rattle.ap_vr.proofs.nets.push_regs.Given as goal

abbrev pub invariant-loop-reg : goal.invariant-loop-reg
invariant-loop-reg l = l.forms ≡ l.fn.forms ++ map reg_form (take l.reg-index l.regs)
