use Rattle.std.proofs.Common.{◌<◌, ◌%◌}
use Rattle.std.proofs.lemmas.Nat.{mod_below}
use Rattle.ap_bits.proofs.LowBits.{rotated_word}
use Rattle.ap_bits.proofs.words.rotated.Goals as goal

pub returns : goal.returns
returns c =
    let turn : c.args.b % c.args.w < c.args.w = mod_below _ _ c.requires.low in
    rw (c.from.ensures, c.from-wide.ensures) (rotated_word _ _ _ c.requires.high c.requires.a turn)
