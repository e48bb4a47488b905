use Rattle.std.proofs.Common.{◌∙◌, ap, not}
use Rattle.ap_bits.proofs.SignedValues.{shifted_negative, shifted_positive}
use Rattle.ap_bits.proofs.words.right_signed.Goals as goal

pub returns-then-is_negative : goal.returns-then-is_negative
returns-then-is_negative c =
    rw c.mask.ensures (shifted_negative c.args.w c.args.a c.args.b c.right.result c.requires.a (c.is_negative.ensures ∙ ap not c.if-is_negative.true) (rw c.mask-then-is_negative.ensures at c.right.ensures))

pub returns-else-is_negative : goal.returns-else-is_negative
returns-else-is_negative c =
    shifted_positive c.args.w c.args.a c.args.b c.right-else-is_negative.result c.requires.a (c.is_negative.ensures ∙ ap not c.if-is_negative.false) c.right-else-is_negative.ensures
