use Rattle.ap_bits.proofs.LowBits.{low_bits}
use Rattle.ap_bits.proofs.words.sum.Goals as goal

pub returns : goal.returns
returns c = rw c.mask.ensures (low_bits _ _ c.requires.high)
