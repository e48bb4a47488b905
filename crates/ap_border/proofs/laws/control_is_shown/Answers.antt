use Rattle.ap_border.proofs.ControlShown.{control_is_shown, valid_bits_go, valid_bits_start}
use Rattle.ap_border.proofs.laws.control_is_shown.Goals as goal

pub returns-clause-shows : goal.returns-clause-shows
returns-clause-shows c = control_is_shown

pub returns-clause-starts : goal.returns-clause-starts
returns-clause-starts c = valid_bits_start

pub returns-clause-goes : goal.returns-clause-goes
returns-clause-goes c = valid_bits_go
