use Rattle.ap_supply.proofs.SlowOnes.{slow_were_placed}
use Rattle.ap_supply.proofs.laws.slow_units_were_placed.Goals as goal

pub returns : goal.returns
returns c = slow_were_placed
