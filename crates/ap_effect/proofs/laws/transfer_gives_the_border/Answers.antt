use Rattle.ap_effect.proofs.Given.{transfer_gives}
use Rattle.ap_effect.proofs.laws.transfer_gives_the_border.Goals as goal

pub returns : goal.returns
returns c = transfer_gives c.nets_show_transfer.ensures
