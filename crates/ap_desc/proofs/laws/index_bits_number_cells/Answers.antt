use Rattle.ap_desc.proofs.IndexBits.{bits_of_cells, index_has_bits}
use Rattle.ap_desc.proofs.laws.index_bits_number_cells.Goals as goal

pub returns-clause-cells : goal.returns-clause-cells
returns-clause-cells c = bits_of_cells

pub returns-clause-index : goal.returns-clause-index
returns-clause-index c = index_has_bits
