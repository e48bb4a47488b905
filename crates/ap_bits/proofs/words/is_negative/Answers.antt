use Rattle.std.proofs.lemmas.Nat.{pow_pos}
use Rattle.ap_bits.proofs.LowBits.{below_by_quotient}
use Rattle.ap_bits.proofs.words.is_negative.Goals as goal

pub returns : goal.returns
returns c = below_by_quotient _ _ (pow_pos _)
