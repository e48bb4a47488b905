use Rattle.std.proofs.Common.{◌≡◌, ◌+◌, ◌-◌, vec_len}
use Rattle.ap_image.specs.Words.{with_word}
use Rattle.ap_plain.proofs.storages.set_word.Given as goal

abbrev pub invariant-loop-set : goal.invariant-loop-set
invariant-loop-set l = with_word l.set.items l.address l.value ≡ with_word l.words l.address l.value

abbrev pub decreases-loop-set : goal.decreases-loop-set
decreases-loop-set l = l.address + 1 - vec_len l.set
