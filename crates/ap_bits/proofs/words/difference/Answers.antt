use Rattle.std.proofs.Common.{◌∙◌}
use Rattle.ap_bits.proofs.LowBits.{low_bits, difference_word}
use Rattle.ap_bits.proofs.words.difference.Goals as goal

pub returns : goal.returns
returns c = rw c.mask.ensures (low_bits _ _ c.requires.high ∙ difference_word _ _ _ c.requires.high c.requires.b)
