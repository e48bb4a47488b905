use Rattle.ap_store.proofs.CellLaws.{cells_go_alone}
use Rattle.ap_store.proofs.file.cells_go_alone.Goals as goal

pub returns : goal.returns
returns c = cells_go_alone
