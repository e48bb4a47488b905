-- What a processor stores, and what a write changes: registers, files of cells, and data memories. A word of a memory that was
-- never given is 0.
use Rattle.std.specs.Prelude.{ℕ, List, [], fold, slice_index, slice_index_or, slice_set}
use Rattle.ap_image.specs.Words.{with_word}
use Rattle.ap_model.specs.declared.storage.Storages.{Storages}
use Rattle.ap_model.specs.declared.storage.WritePort.{WritePort}
use Rattle.ap_model.specs.declared.storage.WritePort.TheVariants as port
use Rattle.ap_model.specs.declared.storage.PortWrite.{PortWrite}

-- the value of a register
abbrev pub reg_value : Storages → ℕ → ℕ
reg_value storages reg = slice_index storages.regs reg

-- the value of a file's cell
abbrev pub file_cell_value : Storages → ℕ → ℕ → ℕ
file_cell_value storages file index = slice_index (slice_index_or storages.files file []) index

-- the word of a memory at an address
abbrev pub word_value : Storages → ℕ → ℕ → ℕ
word_value storages mem address = slice_index (slice_index_or storages.mems mem []) address

-- the storages after a value was written through a port, at an index or an address
abbrev pub with_value : Storages → WritePort → ℕ → ℕ → Storages
with_value storages (port.Register reg) at value = record storages { regs = slice_set storages.regs reg value }
with_value storages (port.Cell file number) at value = record storages { files = slice_set storages.files file (slice_set (slice_index_or storages.files file []) at value) }
with_value storages (port.Memory mem) at value = record storages { mems = slice_set storages.mems mem (with_word (slice_index_or storages.mems mem []) at value) }

-- the storages after a write
abbrev pub with_write : Storages → PortWrite → Storages
with_write storages write = with_value storages write.port write.at write.value

-- the storages after writes, one after another: of two to one cell the later one stands
unfoldable pub with_writes : Storages → List PortWrite → Storages
with_writes storages writes = fold with_write storages writes
