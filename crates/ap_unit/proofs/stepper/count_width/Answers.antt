use Rattle.ap_unit.proofs.Begun.{short_width}
use Rattle.ap_unit.proofs.stepper.count_width.Goals as goal

pub returns-clause-room : goal.returns-clause-room
returns-clause-room c = (short_width c.args.w c.requires.high).0

pub returns-clause-few : goal.returns-clause-few
returns-clause-few c = (short_width c.args.w c.requires.high).1
