use Rattle.std.proofs.Common.{arith, ◌<◌}
use Rattle.std.proofs.lemmas.Bool.{lt-ltb}
use Rattle.ap_bits.proofs.LowBits.{low_bits}
use Rattle.ap_bits.proofs.words.left.Goals as goal

pub returns-then-b-from : goal.returns-then-b-from
returns-then-b-from c =
    let within : c.args.b < c.args.w = omega arith in
    rw (c.mask.ensures, lt-ltb c.args.b c.args.w within) (low_bits _ _ c.requires.high)
