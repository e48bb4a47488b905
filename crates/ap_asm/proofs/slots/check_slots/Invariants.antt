use Rattle.std.proofs.Common.{ℕ, ◌<◌, []}
use Rattle.std.specs.List.{slice_index_or}
use Rattle.ap_asm.specs.Conflicts.{IsNear}
use Rattle.ap_asm.proofs.slots.check_slots.Given as goal

-- no word of the groups so far is too near
abbrev pub invariant-loop-group : goal.invariant-loop-group
invariant-loop-group l = (g j : ℕ) → g < l.group → IsNear l.design (slice_index_or l.words g []) j → ⊥
