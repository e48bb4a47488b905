use Rattle.std.proofs.Common.{◌≡◌, map, take}
use Rattle.ap_effect.specs.Writers.{writer_of}
use Rattle.ap_outcome.proofs.list.as_transfers.Given as goal

abbrev pub invariant-loop-made : goal.invariant-loop-made
invariant-loop-made l = map writer_of l.list ≡ take l.made-index l.writers
