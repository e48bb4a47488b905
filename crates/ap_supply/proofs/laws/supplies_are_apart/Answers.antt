use Rattle.ap_supply.proofs.Apart.{supplies_are_apart}
use Rattle.ap_supply.proofs.laws.supplies_are_apart.Goals as goal

pub returns : goal.returns
returns c = supplies_are_apart
