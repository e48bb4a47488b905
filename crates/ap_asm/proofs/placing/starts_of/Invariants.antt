use Rattle.ap_asm.proofs.Placings.{IsPlacing}
use Rattle.ap_asm.proofs.placing.starts_of.Given as goal

-- the groups so far stand at their least places
abbrev pub invariant-loop-i : goal.invariant-loop-i
invariant-loop-i l = IsPlacing l.design l.layout.source l.i l.starts l.end l.placed.items
