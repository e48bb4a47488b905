use Rattle.ap_bits.proofs.LowBits.{mask_word}
use Rattle.ap_bits.proofs.words.mask.Goals as goal

pub returns : goal.returns
returns c = mask_word _ c.requires.high
