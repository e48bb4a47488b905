use Rattle.ap_bank.proofs.FilesGiven.{files_give_border}
use Rattle.ap_bank.proofs.laws.files_give_the_border.Goals as goal

pub returns : goal.returns
returns c = files_give_border
