use Rattle.std.proofs.Common.{◌≡◌, ◌++◌, drop}
use Rattle.ap_slow.specs.Asking.{user_conditions}
use Rattle.ap_slow.proofs.ask.user_conditions.Given as goal

-- those so far, and those of the instructions that are left
abbrev pub invariant-loop-number : goal.invariant-loop-number
invariant-loop-number l = user_conditions l.stage l.unit l.instrs l.conditions ≡ l.nets ++ user_conditions l.stage l.unit (drop l.number l.instrs) (drop l.number l.conditions)
