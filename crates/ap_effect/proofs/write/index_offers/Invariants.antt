use Rattle.std.proofs.Common.{◌≡◌, ◌++◌, drop, filter_map}
use Rattle.ap_effect.specs.Writers.{offer_index}
use Rattle.ap_effect.proofs.write.index_offers.Given as goal

-- the offers so far, and those of the writers from here on
abbrev pub invariant-loop-writer : goal.invariant-loop-writer
invariant-loop-writer l = filter_map offer_index l.writers ≡ l.list ++ filter_map offer_index (drop l.writer-index l.writers)
