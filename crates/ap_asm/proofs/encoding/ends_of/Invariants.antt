use Rattle.ap_asm.specs.Standing.{AreEnds}
use Rattle.ap_asm.proofs.encoding.ends_of.Given as goal

abbrev pub invariant-loop-i : goal.invariant-loop-i
invariant-loop-i l = AreEnds l.design l.source l.starts l.i l.ends.items
