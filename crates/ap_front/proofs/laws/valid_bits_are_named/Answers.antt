use Rattle.ap_front.proofs.Shown.{valid_bits_are_named}
use Rattle.ap_front.proofs.laws.valid_bits_are_named.Goals as goal

pub returns : goal.returns
returns c = valid_bits_are_named
