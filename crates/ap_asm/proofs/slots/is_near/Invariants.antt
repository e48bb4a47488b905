use Rattle.ap_asm.specs.Conflicts.{AreFar}
use Rattle.ap_asm.proofs.slots.is_near.Given as goal

-- none of the words so far
abbrev pub invariant-loop-older : goal.invariant-loop-older
invariant-loop-older l = AreFar l.design l.words l.younger l.older
