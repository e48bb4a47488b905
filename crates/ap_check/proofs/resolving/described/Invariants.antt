use Rattle.std.proofs.Common.{take}
use Rattle.ap_check.specs.Known.{Knows}
use Rattle.ap_unit.specs.Shelves.{cards_of}
use Rattle.ap_check.proofs.resolving.described.Given as goal

-- the environment knows the statements so far
abbrev pub invariant-loop-n : goal.invariant-loop-n
invariant-loop-n g l = Knows (cards_of (λ x. (goal.UnitKind-dyn g x).card x.1) l.shelf) l.n-items (take l.n-index l.n-items) l.environment
