use Rattle.ap_asm.specs.Standing.{ArePicked}
use Rattle.ap_asm.proofs.encoding.landings_of.Given as goal

abbrev pub invariant-loop-i : goal.invariant-loop-i
invariant-loop-i l = ArePicked l.design l.source l.ends l.i l.landings
