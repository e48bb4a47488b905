use Rattle.std.proofs.Common.{◌≡◌, ℕ, ◌<◌, Some}
use Rattle.std.specs.Prelude.{slice_get}
use Rattle.ap_bits.specs.Cards.{operation_names}
use Rattle.ap_top.proofs.addition.operation_named.Given as goal

-- none of the operations so far has the name
abbrev pub invariant-loop-i : goal.invariant-loop-i
invariant-loop-i g l = (j : ℕ) → j < l.i → slice_get (operation_names ((goal.UnitKind-dyn g l.kind.now).card l.kind.now.1)) j ≡ Some l.name → ⊥
