use Rattle.ap_asm.specs.Standing.{HoldsGroups}
use Rattle.ap_asm.proofs.encoding.code_of.Given as goal

abbrev pub invariant-loop-i : goal.invariant-loop-i
invariant-loop-i l = HoldsGroups l.design l.source l.starts l.ends l.i l.code.items
