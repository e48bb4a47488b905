use Rattle.std.proofs.Common.{ℕ, ◌<◌}
use Rattle.ap_asm.specs.Conflicts.{IsNear}
use Rattle.ap_asm.proofs.slots.first_near.Given as goal

-- none of the words so far is too near
abbrev pub invariant-loop-younger : goal.invariant-loop-younger
invariant-loop-younger l = (j : ℕ) → j < l.younger → IsNear l.design l.words j → ⊥
