-- The writes of one storage: a register, a cell of a file, or a data memory.
use Rattle.std.specs.Prelude.{ℕ, ◌==◌, ◌&&◌, if◌then◌else◌, Bool, false, List, map, filter_map, Option, Some, None, option_map, slice_get, unwrap_or}
use Rattle.std.specs.List.{flat_map}
use Rattle.ap_desc.specs.declared.design.Design.{Design}
use Rattle.ap_image.specs.declared.row.Row.{Row}
use Rattle.ap_image.specs.declared.row.Write.{Write}
use Rattle.ap_model.specs.declared.state.Entry.{Entry}
use Rattle.ap_model.specs.declared.storage.PortWrite.{PortWrite}
use Rattle.ap_model.specs.declared.storage.Storage.{Storage}
use Rattle.ap_model.specs.declared.storage.Storage.TheVariants as storage
use Rattle.ap_model.specs.declared.storage.WritePort.{WritePort}
use Rattle.ap_model.specs.declared.storage.WritePort.TheVariants as port
use Rattle.ap_model.specs.Ports.{row_ports}

-- a write through this port at this index goes to the storage
abbrev pub goes_to : Storage → WritePort → ℕ → Bool
goes_to (storage.Register reg) (port.Register other) at = reg == other
goes_to (storage.Cell file index) (port.Cell other number) at = (file == other) && (index == at)
goes_to (storage.Memory mem) (port.Memory other) at = mem == other
goes_to _ _ at = false

-- what a storage sees of a write: the value, for a memory with its address
abbrev pub seen_of : Storage → PortWrite → Option ℕ × ℕ
seen_of (storage.Register reg) write = (None, write.value)
seen_of (storage.Cell file index) write = (None, write.value)
seen_of (storage.Memory mem) write = (Some write.at, write.value)

-- the values that are written to a storage, in the list's order, for a memory with their addresses
unfoldable pub writes_of : Storage → List PortWrite → List (Option ℕ × ℕ)
writes_of storage writes = filter_map (λ (w : PortWrite). if goes_to storage w.port w.at then Some (seen_of storage w) else None) writes

-- the writes of a log
abbrev pub log_writes : List Entry → List PortWrite
log_writes log = map (λ (e : Entry). e.write) log

-- the write that a row shows, by the port of its group
abbrev pub row_write : Design → Write → Option PortWrite
row_write design write = option_map (λ port. record { port = port; at = unwrap_or write.index 0; value = write.value }) (slice_get (row_ports design) write.group)

-- the writes of rows, one row after another
abbrev pub rows_writes : Design → List Row → List PortWrite
rows_writes design rows = filter_map (row_write design) (flat_map (λ (r : Row). r.writes) rows)
