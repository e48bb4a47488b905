-- What a cycle shows.
use Rattle.std.specs.Prelude.{ℕ, ◌+◌, List, [], ◌∷◌, ◌++◌, map, filter, Option, Some, None, is_some}
use Rattle.std.specs.List.{range_with_len}
use Rattle.ap_bits.specs.declared.card.Card.{Card}
use Rattle.ap_desc.specs.declared.design.Design.{Design}
use Rattle.ap_image.specs.declared.image.Image.{Image}
use Rattle.ap_image.specs.declared.trace.Trace.{Trace}
use Rattle.ap_image.specs.declared.trace.TraceLine.{TraceLine}
use Rattle.ap_image.specs.declared.row.Row.{Row}
use Rattle.ap_image.specs.declared.row.Write.{Write}
use Rattle.ap_model.specs.declared.state.Entry.{Entry}
use Rattle.ap_model.specs.declared.state.State.{State}
use Rattle.ap_model.specs.declared.storage.PortWrite.{PortWrite}
use Rattle.ap_model.specs.declared.storage.WritePort.{WritePort}
use Rattle.ap_model.specs.declared.storage.WritePort.TheVariants as port
use Rattle.ap_model.specs.Cycles.{CycleControl, control_of, cycle_entries, inputs_at, over}
use Rattle.ap_model.specs.Ports.{is_same_port, row_ports}

-- the index or address that is shown: none of a register
abbrev pub shown_index : WritePort → ℕ → Option ℕ
shown_index (port.Register reg) at = None
shown_index (port.Cell file number) at = Some at
shown_index (port.Memory mem) at = Some at

-- a write as a row shows it in its group
abbrev pub shown_write : ℕ → PortWrite → Write
shown_write group write = record { group = group; index = shown_index write.port write.at; value = write.value }

-- the writes by group, where the groups are numbered from this number on
abbrev pub group_writes : ℕ → List WritePort → List PortWrite → List Write
group_writes group [] writes = []
group_writes group (p ∷ ports) writes = map (shown_write group) (filter (λ (w : PortWrite). is_same_port p w.port) writes) ++ group_writes (group + 1) ports writes

-- the row of a cycle that this decides on: it is stalled where stage 0 is held, and a kill where a transfer is taken
unfoldable pub control_row : Design → List Card → TraceLine → State → CycleControl → Row
control_row design cards inputs state control = record {
  stall = control.held 0;
  kill = is_some control.taken;
  writes = group_writes 0 (row_ports design) (map (λ (e : Entry). e.write) (cycle_entries design cards inputs state control));
}

-- the row of a cycle that begins in this state, with these inputs
unfoldable pub cycle_row : Design → List Card → TraceLine → State → Row
cycle_row design cards inputs state = control_row design cards inputs state (control_of design cards inputs state)

-- the row of cycle j
unfoldable pub row : Design → List Card → Image → Trace → ℕ → Row
row design cards image trace j = cycle_row design cards (inputs_at design trace j) (over design cards image trace j)

-- the rows of the first c cycles
unfoldable pub rows_of : Design → List Card → Image → Trace → ℕ → List Row
rows_of design cards image trace c = map (row design cards image trace) (range_with_len 0 c)
