use Rattle.ap_border.proofs.FilesStored.{cells_are_stored, storages_go}
use Rattle.ap_border.proofs.laws.files_store_writes.Goals as goal

pub returns-clause-cells : goal.returns-clause-cells
returns-clause-cells c = cells_are_stored c.cells_go_alone.ensures

pub returns-clause-storages : goal.returns-clause-storages
returns-clause-storages c = storages_go c.cells_go_alone.ensures
