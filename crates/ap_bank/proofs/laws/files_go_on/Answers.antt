use Rattle.ap_bank.proofs.FilesGiven.{files_later}
use Rattle.ap_bank.proofs.laws.files_go_on.Goals as goal

pub returns : goal.returns
returns c = files_later
