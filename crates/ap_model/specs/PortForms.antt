-- What goes through each port in a cycle, and what a row and the storages have of it, port by port.
use Rattle.std.specs.Prelude.{◌≡◌, ℕ, ◌+◌, ◌<◌, ◌==◌, if◌then◌else◌, true, false, List, [], ◌∷◌, ◌++◌, fold, filter, filter_map, find, slice_get, length, Option, Some, None, slice_index_or, option_and_then, option_to_list}
use Rattle.std.specs.List.{flat_map}
use Rattle.std.specs.Option.{option_map_or}
use Rattle.ap_bits.specs.declared.card.Card.{Card}
use Rattle.ap_desc.specs.Ports.{is_transfer}
use Rattle.ap_desc.specs.declared.design.Arg.{Arg}
use Rattle.ap_desc.specs.declared.design.Design.{Design}
use Rattle.ap_desc.specs.declared.design.Instr.{Instr}
use Rattle.ap_desc.specs.declared.design.Micro.{Micro}
use Rattle.ap_image.specs.declared.row.Write.{Write}
use Rattle.ap_model.specs.declared.storage.PortWrite.{PortWrite}
use Rattle.ap_model.specs.declared.storage.Storages.{Storages}
use Rattle.ap_model.specs.declared.storage.WritePort.{WritePort}
use Rattle.ap_model.specs.declared.storage.WritePort.TheVariants as port
use Rattle.ap_model.specs.Fire.{Sight, arg_value, fire, instr_of, lines_in, locals_after, target_of, write_of}
use Rattle.ap_model.specs.Ports.{file_groups, is_same_port, is_used, is_used_in, row_ports, stages_from_last, write_ports, writes_through}
use Rattle.ap_model.specs.ShownRows.{group_writes, shown_write}
use Rattle.ap_image.specs.Words.{with_word}
use Rattle.ap_model.specs.Stored.{file_cell_value, reg_value, with_writes}

-- the write that goes through each port in a cycle, if one does
abbrev pub Writing : Type 0
Writing = WritePort → Option PortWrite

-- what goes through a port is a write of that port, and nothing goes through one that no line uses
pub record GoesThroughPorts (design : Design) (writing : Writing) : Type 0 where
  pub theirs : (p : WritePort) (w : PortWrite) → writing p ≡ Some w → w.port ≡ p
  pub idle : (p : WritePort) → is_used design p ≡ false → writing p ≡ None

-- the writes through these ports
abbrev pub through : Writing → List WritePort → List PortWrite
through writing ports = flat_map (λ p. option_to_list (writing p)) ports

-- the ports of a stage, in the order of its writes
abbrev pub stage_ports : Design → ℕ → List WritePort
stage_ports design stage = filter (is_used_in design stage) (write_ports design)

-- the writes of a stage, and those of the cycle, the last stage first
abbrev pub stage_writes : Design → Writing → ℕ → List PortWrite
stage_writes design writing stage = through writing (stage_ports design stage)

abbrev pub all_writes : Design → Writing → List PortWrite
all_writes design writing = flat_map (stage_writes design writing) (stages_from_last design)

-- the write through a port, among these writes
abbrev pub write_through : WritePort → List PortWrite → Option PortWrite
write_through p writes = find (λ (w : PortWrite). is_same_port p w.port) writes

-- through the ports of a stage goes what these writes have
abbrev pub ShowsWrites : Design → Writing → ℕ → List PortWrite → Type 0
ShowsWrites design writing stage writes = (p : WritePort) → is_used_in design stage p ≡ true → writing p ≡ write_through p writes

-- Rows.

-- a write in its group, as a row shows it
abbrev pub shown_through : ℕ → Option PortWrite → List Write
shown_through group write = option_map_or (λ w. shown_write group w ∷ []) write []

-- the writes through these ports, whose groups are numbered from this number on
abbrev pub shown_ports : Writing → ℕ → List WritePort → List Write
shown_ports writing group [] = []
shown_ports writing group (p ∷ ports) = shown_through group (writing p) ++ shown_ports writing (group + 1) ports

-- Storages.

-- a cell's value after the write of a port
abbrev pub cell_after : ℕ → ℕ → Option PortWrite → ℕ
cell_after index old write = option_map_or (λ (w : PortWrite). if w.at == index then w.value else old) write old

-- the words of a memory, the cells of a file
abbrev pub words_of : Storages → ℕ → List ℕ
words_of storages mem = slice_index_or storages.mems mem []

abbrev pub cells_of : Storages → ℕ → List ℕ
cells_of storages file = slice_index_or storages.files file []

-- Each register takes what goes through its port; each cell what goes to it through the ports of its file, the last of them in the
-- order of the groups; each memory its write. All else stays.
pub record StoresWrites (design : Design) (writing : Writing) (old new : Storages) : Type 0 where
  pub reg_count : length new.regs ≡ length old.regs
  pub regs : (reg : ℕ) → reg < length old.regs → reg_value new reg ≡ option_map_or (λ (w : PortWrite). w.value) (writing (port.Register reg)) (reg_value old reg)
  pub file_count : length new.files ≡ length old.files
  pub cell_count : (file : ℕ) → length (cells_of new file) ≡ length (cells_of old file)
  pub cells : (file index : ℕ) → file < length old.files → index < length (cells_of old file)
      → file_cell_value new file index ≡ fold (λ value p. cell_after index value (writing p)) (file_cell_value old file index) (file_groups design file)
  pub mem_count : length new.mems ≡ length old.mems
  pub mems : (mem : ℕ) → mem < length old.mems → words_of new mem ≡ option_map_or (λ (w : PortWrite). with_word (words_of old mem) w.at w.value) (writing (port.Memory mem)) (words_of old mem)

-- there is a value for each register, a file for each file and a memory for each memory
pub record HasAll (design : Design) (storages : Storages) : Type 0 where
  pub regs : length storages.regs ≡ length design.regs
  pub files : length storages.files ≡ length design.files
  pub mems : length storages.mems ≡ length design.mems

-- a cycle's writes, port by port, show the same groups as the list of them, and store the same
pub record GoesByPorts (design : Design) (writing : Writing) : Type 0 where
  pub groups : group_writes 0 (row_ports design) (all_writes design writing) ≡ shown_ports writing 0 (row_ports design)
  pub storages : (old new : Storages) → HasAll design old → StoresWrites design writing old new → new ≡ with_writes old (all_writes design writing)

-- Lines.

-- of these lines, those that write through the port
abbrev pub writes_once : WritePort → List Micro → List Micro
writes_once p micros = filter (λ (m : Micro). writes_through p m.act) micros

-- what the line that writes through a port writes, of lines that write through it once
abbrev pub line_write : (Arg → ℕ) → WritePort → List Micro → Option PortWrite
line_write value p micros = option_and_then (λ (m : Micro). write_of value m.act) (find (λ (m : Micro). writes_through p m.act) micros)

-- the values that the lines of a stage of an instruction see
abbrev pub stage_value : Design → List Card → ℕ → ℕ → ℕ → List ℕ → Storages → (ℕ → ℕ → ℕ) → Instr → Arg → ℕ
stage_value design cards stage place word locals storages input instr =
    let sight : Sight = record { design = design; cards = cards; instr = instr; word = word; place = place; storages = storages; input = input } in
    arg_value sight (locals_after sight locals (lines_in stage instr))

-- each port of a stage gets what its one line writes
abbrev pub WritesByLine : Design → List Card → Type 0
WritesByLine design cards = (stage place word : ℕ) (locals : List ℕ) (storages : Storages) (input : ℕ → ℕ → ℕ) (instr : Instr) (p : WritePort) → instr_of design word ≡ Some instr → is_used_in design stage p ≡ true
    → write_through p (fire design cards stage place word locals storages input).writes ≡ line_write (stage_value design cards stage place word locals storages input instr) p (lines_in stage instr)

-- the transfer of a stage is that of its one transfer line
abbrev pub line_target : (Arg → ℕ) → List Micro → Option ℕ
line_target value micros = option_and_then (λ (m : Micro). target_of value m.act) (find (λ (m : Micro). is_transfer m.act) micros)

abbrev pub TargetsByLine : Design → Type 0
TargetsByLine design = (value : Arg → ℕ) (stage word : ℕ) (instr : Instr) → instr_of design word ≡ Some instr → slice_get (filter_map (λ (m : Micro). target_of value m.act) (lines_in stage instr)) 0 ≡ line_target value (lines_in stage instr)

-- a stage whose ports show what its word writes makes these writes, in their order
abbrev pub StageWritesByPorts : Design → List Card → Writing → Type 0
StageWritesByPorts design cards writing = (stage place word : ℕ) (locals : List ℕ) (storages : Storages) (input : ℕ → ℕ → ℕ) → ShowsWrites design writing stage (fire design cards stage place word locals storages input).writes
    → (fire design cards stage place word locals storages input).writes ≡ stage_writes design writing stage
