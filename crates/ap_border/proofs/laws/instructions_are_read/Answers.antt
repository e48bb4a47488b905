use Rattle.ap_border.proofs.InstrsRead.{instrs_are_read}
use Rattle.ap_border.proofs.laws.instructions_are_read.Goals as goal

pub returns : goal.returns
returns c = instrs_are_read
