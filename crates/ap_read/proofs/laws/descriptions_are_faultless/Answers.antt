use Rattle.ap_read.proofs.Whole.{reads_faultless}
use Rattle.ap_read.proofs.laws.descriptions_are_faultless.Goals as goal

pub returns : goal.returns
returns c = reads_faultless c.spelling_is_unique.ensures
