use Rattle.ap_store.proofs.FileNeeds.{files_depend}
use Rattle.ap_store.proofs.file.files_depend.Goals as goal

pub returns : goal.returns
returns c = files_depend
