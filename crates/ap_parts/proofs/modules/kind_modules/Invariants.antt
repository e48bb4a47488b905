use Rattle.std.proofs.Common.{take}
use Rattle.ap_unit.specs.Shelves.{cards_of}
use Rattle.ap_ctl.specs.Lists.{EachPair}
use Rattle.ap_parts.specs.Parts.{IsKindModule}
use Rattle.ap_parts.proofs.modules.kind_modules.Given as goal

abbrev pub invariant-loop-pair : goal.invariant-loop-pair
invariant-loop-pair g l = EachPair (IsKindModule (cards_of (λ x. (goal.UnitKind-dyn g x).card x.1) l.shelf)) (take l.pair-index l.kinds) l.modules.items
