use Rattle.std.proofs.Common.{◌≡◌, map, take}
use Rattle.ap_effect.specs.Writers.{offer_value}
use Rattle.ap_effect.proofs.write.value_offers.Given as goal

abbrev pub invariant-loop-writer : goal.invariant-loop-writer
invariant-loop-writer l = l.list ≡ map offer_value (take l.writer-index l.writers)
