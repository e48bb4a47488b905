use Rattle.ap_bank.proofs.FilesGiven.{files_show}
use Rattle.ap_bank.proofs.laws.files_show_reads.Goals as goal

pub returns : goal.returns
returns c = files_show
