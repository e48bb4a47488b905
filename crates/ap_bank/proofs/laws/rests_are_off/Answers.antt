use Rattle.ap_bank.proofs.FilesGiven.{rests_off}
use Rattle.ap_bank.proofs.laws.rests_are_off.Goals as goal

pub returns : goal.returns
returns c = rests_off
