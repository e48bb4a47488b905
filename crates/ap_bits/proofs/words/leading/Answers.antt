use Rattle.std.proofs.Common.{◌∙◌}
use Rattle.ap_bits.proofs.Counts.{zeros_above_word}
use Rattle.ap_bits.proofs.words.leading.Goals as goal

pub overflow_sub-a : goal.overflow_sub-a
overflow_sub-a c = (zeros_above_word _ _ c.requires.high c.requires.a).0

pub returns : goal.returns
returns c = c.from.ensures ∙ (zeros_above_word _ _ c.requires.high c.requires.a).1
