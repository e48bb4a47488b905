use Rattle.std.proofs.Common.{◌≡◌, map, take}
use Rattle.ap_effect.specs.Writers.{writer_of}
use Rattle.ap_effect.proofs.transfer.writers_of.Given as goal

abbrev pub invariant-loop-transfer : goal.invariant-loop-transfer
invariant-loop-transfer l = l.list ≡ map writer_of (take l.transfer-index l.transfers)
