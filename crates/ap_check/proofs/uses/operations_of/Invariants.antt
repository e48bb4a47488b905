use Rattle.std.proofs.Common.{◌≡◌, take}
use Rattle.ap_bits.specs.Cards.{operation_names}
use Rattle.ap_check.proofs.uses.operations_of.Given as goal

-- the names are those of the operations so far
abbrev pub invariant-loop-i : goal.invariant-loop-i
invariant-loop-i g l = l.names ≡ take l.i (operation_names ((goal.UnitKind-dyn g l.kind.now).card l.kind.now.1))
