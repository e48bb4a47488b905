-- A register file's module while it is being built: its cells are declared first, then its ports.
use Rattle.std.specs.Prelude.{◌≡◌, ℕ, ◌+◌, ◌<◌, List, [], ◌∷◌, ◌++◌, length, map, slice_get, slice_index, Some}
use Rattle.std.specs.List.{flat_map, range_with_len}
use Rattle.ap_desc.specs.declared.design.File.{File}
use Rattle.ap_desc.specs.Designs.{index_bits}
use Rattle.ap_net.specs.declared.cell.Wire.{Wire}
use Rattle.ap_net.specs.declared.net.ModuleNet.{ModuleNet}
use Rattle.ap_net.specs.declared.net.Next.{Next}
use Rattle.ap_net.specs.declared.net.Role.TheVariants as role
use Rattle.ap_net.specs.Names.{IsNew, IsNotNumbered}
use Rattle.ap_net.specs.Modules.{ports_among}
use Rattle.ap_net.specs.Draft.{Draft, Adds, Begins, CanFresh, RegistersBelow, SettlesDraft, names_of, with_net}
use Rattle.ap_net.specs.Ready.{AllReady, Dependence, ReadyAfter}
use Rattle.ap_unit.specs.Pieces.{input_net, output_net}
use Rattle.ap_unit.specs.Stepping.{wire}
use Rattle.ap_store.specs.declared.writes.WritePort.{WritePort}
use Rattle.ap_store.specs.Cells.{after_writes}
use Rattle.ap_store.specs.FilePorts.{file_ports, read_index_name, read_value_name, write_enable_name, write_index_name, write_value_name}
use Rattle.ap_store.specs.FileModules.{cell_net}
use Rattle.ap_store.specs.Writers.{ports_write}

-- the nets of the cells, and of the first so many of them the wires
abbrev pub cell_nets : File → ℕ → List ModuleNet
cell_nets file count = map (cell_net file) (range_with_len 0 count)

abbrev pub cell_wire : ℕ → ℕ → Wire
cell_wire width index = wire index width

abbrev pub cell_wires : ℕ → ℕ → List Wire
cell_wires width count = map (cell_wire width) (range_with_len 0 count)

-- what the cells hold, where read gives the value of each net by its number
abbrev pub cell_values : (ℕ → ℕ) → ℕ → List ℕ
cell_values read count = map read (range_with_len 0 count)

-- a draft with the first so many cells and nothing else
abbrev pub with_cells : List ℕ → File → ℕ → Draft
with_cells name file count = record { name = name; nets = cell_nets file count; assigns = []; nexts = []; instances = [] }

-- the cells are there, before all other nets
abbrev pub StartsWithCells : Draft → File → Type 0
StartsWithCells d file = Begins (cell_nets file file.cells) d.nets

-- what the outside gives a source depends on no net
abbrev pub LooksNowhere : Dependence → Type 0
LooksNowhere by = (n : ℕ) → by.looks n ≡ []

-- Ports and wires came: they are ready and driven, no register is among them, and a name other than these and other than n and a
-- number is as new as it was.
pub record Grows (named : List (List ℕ)) (old new : Draft) : Type 0 where
  pub adds : Adds old new
  pub instances : new.instances ≡ old.instances
  pub ready : (by : Dependence) → LooksNowhere by → AllReady by old → AllReady by new
  pub registers : (k : ℕ) → RegistersBelow old.nets k → RegistersBelow new.nets k
  pub fresh : CanFresh old → CanFresh new
  pub names : (name : List ℕ) → IsNotNumbered name → IsNew name named → IsNew name (names_of old) → IsNew name (names_of new)

-- A read port of the file: in every solution it shows the cell at its index, and it is ready once its index and the cells are.
pub record IsRead (d : Draft) (file : File) (port : ℕ) : Type 0 where
  pub index : ℕ
  pub value : ℕ
  pub input : slice_get d.nets index ≡ Some (input_net (read_index_name port) (index_bits file))
  pub output : slice_get d.nets value ≡ Some (output_net (read_value_name port) file.width)
  pub shows : (read : ℕ → ℕ) → SettlesDraft d read → read value ≡ slice_index (cell_values read file.cells) (read index)
  pub alone : (by : Dependence) → ReadyAfter by d (index ∷ range_with_len 0 file.cells) value

-- the names of read ports, and of write ports
abbrev pub read_names : ℕ → List (List ℕ)
read_names port = read_index_name port ∷ read_value_name port ∷ []

abbrev pub write_names : ℕ → List (List ℕ)
write_names port = write_enable_name port ∷ write_index_name port ∷ write_value_name port ∷ []

-- the names of the first so many ports
abbrev pub names_below : (ℕ → List (List ℕ)) → ℕ → List (List ℕ)
names_below names count = flat_map names (range_with_len 0 count)

-- the draft with a write port, and its wires
abbrev pub with_write : Draft → File → ℕ → Draft
with_write d file port = with_net (with_net (with_net d (write_enable_name port) 1 role.Input) (write_index_name port) (index_bits file) role.Input) (write_value_name port) file.width role.Input

abbrev pub write_wires : Draft → File → WritePort
write_wires d file = record { enable = wire (length d.nets) 1; index = wire (length d.nets + 1) (index_bits file); value = wire (length d.nets + 2) file.width }

-- a write port of the file
pub record IsWrite (d : Draft) (file : File) (number : ℕ) (port : WritePort) : Type 0 where
  pub enable : slice_get d.nets port.enable.number ≡ Some (input_net (write_enable_name number) 1)
  pub index : slice_get d.nets port.index.number ≡ Some (input_net (write_index_name number) (index_bits file))
  pub value : slice_get d.nets port.value.number ≡ Some (input_net (write_value_name number) file.width)
  pub enable_width : port.enable.width ≡ 1
  pub index_width : port.index.width ≡ index_bits file
  pub value_width : port.value.width ≡ file.width

-- its write ports, by number
abbrev pub AreWrites : Draft → File → List WritePort → Type 0
AreWrites d file ports = (number : ℕ) (port : WritePort) → slice_get ports number ≡ Some port → IsWrite d file number port

-- what the cells take is what they hold with the cycle's writes
abbrev pub TakesWrites : Draft → List ℕ → List WritePort → Type 0
TakesWrites d stages ports = (read : ℕ → ℕ) → SettlesDraft d read
    → map (λ (x : Next). read x.from.number) d.nexts ≡ after_writes (map (λ (x : Next). read x.register.number) d.nexts) (ports_write read ports stages)

-- The draft of a register file, before it is finished.
pub record HoldsFile (d : Draft) (file : File) (stages : List ℕ) : Type 0 where
  pub ports : ports_among d.nets ≡ file_ports file
  pub instances : d.instances ≡ []
  pub cells : StartsWithCells d file
  pub registers : RegistersBelow d.nets file.cells
  pub names : (name : List ℕ) → IsNotNumbered name → IsNew name (names_below read_names file.reads ++ names_below write_names file.writes) → IsNew name (names_of (with_cells d.name file file.cells)) → IsNew name (names_of d)
  pub ready : (by : Dependence) → LooksNowhere by → AllReady by d
  pub reads : (port : ℕ) → port < file.reads → IsRead d file port
  pub writers : List WritePort
  pub count : length writers ≡ file.writes
  pub writes : AreWrites d file writers
  pub drivers : map (λ (x : Next). x.register) d.nexts ≡ cell_wires file.width file.cells
  pub taken : TakesWrites d stages writers
