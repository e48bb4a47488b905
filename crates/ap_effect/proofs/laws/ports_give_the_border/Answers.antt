use Rattle.ap_effect.proofs.Given.{ports_give}
use Rattle.ap_effect.proofs.laws.ports_give_the_border.Goals as goal

pub returns : goal.returns
returns c = ports_give c.ports_show_writes.ensures
