use Rattle.ap_staged.proofs.Grounds.{grounds_named}
use Rattle.ap_staged.proofs.laws.grounds_are_named.Goals as goal

pub returns : goal.returns
returns c = grounds_named
