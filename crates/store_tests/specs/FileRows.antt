-- Worked rows: a file of two cells of 8 bits, with one read port and two write ports.
use Rattle.std.specs.Prelude.{◌≡◌, ℕ, List, [], ◌∷◌, codes, slice_index}
use Rattle.ap_desc.specs.declared.design.File.{File}
use Rattle.ap_store.specs.Cells.{after_writes, write_order}
use Rattle.ap_store.specs.FileModules.{cycle_writes}

abbrev pub two_cells : File
two_cells = record { name = codes "F"; width = 8; cells = 2; reads = 1; writes = 2 }

-- a cycle in which 9 is written to cell 1 through port 0, and 7 to the same cell through port 1; by the numbers of the ports, those of
-- the read port come first
abbrev pub both_write : ℕ → ℕ
both_write port = slice_index (1 ∷ 0 ∷ 1 ∷ 1 ∷ 9 ∷ 1 ∷ 1 ∷ 7 ∷ []) port

-- the cells after this cycle, where the ports have these stages and the cells are 0 before
abbrev pub cells_after : List ℕ → List ℕ
cells_after stages = after_writes (0 ∷ 0 ∷ []) (cycle_writes two_cells stages both_write)

-- port 0 in stage 2 and port 1 in stage 3, and the other way round
abbrev pub YoungerStands : Type 0
YoungerStands = (cells_after (2 ∷ 3 ∷ []) ≡ 0 ∷ 9 ∷ []) × (cells_after (3 ∷ 2 ∷ []) ≡ 0 ∷ 7 ∷ [])

-- both in one stage
abbrev pub HigherStands : Type 0
HigherStands = cells_after (4 ∷ 4 ∷ []) ≡ 0 ∷ 7 ∷ []

-- port 1 isn't used, or none
abbrev pub UnusedWritesNothing : Type 0
UnusedWritesNothing = (cells_after (1 ∷ 0 ∷ []) ≡ 0 ∷ 9 ∷ []) × (cells_after (0 ∷ 0 ∷ []) ≡ 0 ∷ 0 ∷ [])

abbrev pub OrderByStage : Type 0
OrderByStage = write_order (3 ∷ 7 ∷ 3 ∷ 0 ∷ 1 ∷ []) ≡ 1 ∷ 0 ∷ 2 ∷ 4 ∷ []
