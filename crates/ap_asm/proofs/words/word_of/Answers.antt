use Rattle.std.proofs.Common.{length, ap, ◌∙◌}
use Rattle.std.specs.Prelude.{map}
use Rattle.ap_enc.specs.Words.{first_unfit}
use Rattle.ap_asm.specs.Words.{value_among}
use Rattle.ap_asm.proofs.FittingWords.{can_encode}
use Rattle.ap_asm.proofs.words.word_of.Goals as goal

pub encode-requires-clause-values : goal.encode-requires-clause-values
encode-requires-clause-values c =
    let e = can_encode c.args.design.now c.requires.fits.0 c.args.line.now c.args.landings.now c.requires.fits.1 c.requires.addresses in
    ap length (c.as_slice-given.ensures.value ∙ c.in_ok-values.ensures ∙ ap (map (value_among c.args.landings.now)) c.as_slice-operands.ensures) ∙ e.count

pub unwrap-word-requires : goal.unwrap-word-requires
unwrap-word-requires c =
    let e = can_encode c.args.design.now c.requires.fits.0 c.args.line.now c.args.landings.now c.requires.fits.1 c.requires.addresses in
    c.encode.ensures.fits.1 (ap (first_unfit c.args.design.now c.args.line.now.instr) (c.as_slice-given.ensures.value ∙ c.in_ok-values.ensures ∙ ap (map (value_among c.args.landings.now)) c.as_slice-operands.ensures) ∙ e.fits)
