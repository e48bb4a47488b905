use Rattle.std.proofs.Common.{◌∙◌, sym}
use Rattle.ap_bits.proofs.Counts.{ones_among_word}
use Rattle.ap_bits.proofs.words.ones.Goals as goal

pub returns : goal.returns
returns c = c.from.ensures ∙ sym (ones_among_word _ _ c.requires.a)
