use Rattle.ap_comb.proofs.KindValues.{power_width}
use Rattle.ap_comb.proofs.shift.levels_of.Goals as goal

pub returns : goal.returns
returns c = power_width c.args.w c.requires
