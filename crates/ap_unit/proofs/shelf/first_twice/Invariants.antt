use Rattle.std.proofs.Common.{ℕ, ◌<◌, map}
use Rattle.ap_unit.specs.Kinds.{StoodEarlier, names_of}
use Rattle.ap_unit.proofs.shelf.first_twice.Given as goal

abbrev pub invariant-loop-i : goal.invariant-loop-i
invariant-loop-i g l = (j : ℕ) → j < l.i → StoodEarlier (names_of (map (λ b. (goal.UnitKind-dyn g (b.vtable, b.value)).card b.value) l.kinds)) j → ⊥
