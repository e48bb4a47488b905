-- What a register file's module is: a list of cells that is read at an index and written by the writes of a cycle.
use Rattle.std.specs.Prelude.{◌≡◌, ℕ, ◌<◌, ◌+◌, ◌==◌, if◌then◌else◌, List, [], ◌∷◌, length, map, slice_get, slice_index, Some, Bool, IsTrue}
use Rattle.std.specs.List.{AllByRecursion as Each, flat_map}
use Rattle.ap_desc.specs.declared.design.File.{File}
use Rattle.ap_net.specs.declared.net.ModuleNet.{ModuleNet}
use Rattle.ap_net.specs.declared.net.Net.{Net}
use Rattle.ap_net.specs.declared.net.Next.{Next}
use Rattle.ap_net.specs.Wiring.{IsDriven, IsOrdered, Settles}
use Rattle.ap_net.specs.Modules.{ModuleText, IsModule, nets_of, ports_among}
use Rattle.ap_net.specs.Draft.{Draft}
use Rattle.ap_net.specs.Finished.{IsFinished}
use Rattle.ap_net.specs.Depends.{DependsOnNone}
use Rattle.ap_net.specs.Responding.{DependsAs}
use Rattle.ap_unit.specs.Named.{is_lettered}
use Rattle.ap_unit.specs.Stepping.{register_net}
use Rattle.ap_store.specs.Cells.{CellWrite, after_writes, write_order}
use Rattle.ap_store.specs.FilePorts.{cell_name, file_ports, inputs_but, read_index, read_value, write_enable, write_index, write_value}

-- what the registers hold in a solution, and what they take at the edge, in the order of their drivers
abbrev pub held : ModuleText → (ℕ → ℕ) → List ℕ
held m read = map (λ (x : Next). read x.register.number) m.nexts

abbrev pub taken : ModuleText → (ℕ → ℕ) → List ℕ
taken m read = map (λ (x : Next). read x.from.number) m.nexts

-- the register of a cell, which is 0 after reset
abbrev pub cell_net : File → ℕ → ModuleNet
cell_net file index = register_net (cell_name index) file.width

-- the registers are the cells, in order
pub record HasCells (m : ModuleText) (file : File) : Type 0 where
  pub count : length m.nexts ≡ file.cells
  pub each : (index : ℕ) (x : Next) → slice_get m.nexts index ≡ Some x → slice_get (nets_of m) x.register.number ≡ Some (cell_net file index)

-- what is written through a port: its value to the cell at its index, where its enable is 1
abbrev pub write_of : ℕ → ℕ → ℕ → List CellWrite
write_of enable index value = if enable == 1 then record { at = index; value = value } ∷ [] else []

abbrev pub write_through : File → (ℕ → ℕ) → ℕ → List CellWrite
write_through file read port = write_of (read (write_enable file port)) (read (write_index file port)) (read (write_value file port))

-- the writes of a cycle, in order, where each write port has its stage
abbrev pub cycle_writes : File → List ℕ → (ℕ → ℕ) → List CellWrite
cycle_writes file stages read = flat_map (write_through file read) (write_order stages)

-- The module is a register file: it has the ports due and no instances, its registers are the cells, and its wires are named n (byte
-- 110) and digits. In every solution a read port
-- shows the cell at its index, as it is before the edge, and after the edge the cells are the list with the cycle's writes. No net
-- depends on itself, and what a read port shows depends on no input but its index.
pub record IsFile (m : ModuleText) (file : File) (stages : List ℕ) : Type 0 where
  pub ports : m.ports ≡ file_ports file
  pub instances : m.instances ≡ []
  pub cells : HasCells m file
  pub wires : Each (λ (x : Net). IsTrue (is_lettered 110 x.name)) m.wires
  pub reads : (port : ℕ) (read : ℕ → ℕ) → port < file.reads → Settles (nets_of m) m.assigns read → read (read_value port) ≡ slice_index (held m read) (read (read_index port))
  pub writes : (read : ℕ → ℕ) → Settles (nets_of m) m.assigns read → taken m read ≡ after_writes (held m read) (cycle_writes file stages read)
  pub ordered : IsOrdered m.assigns
  pub alone : (port : ℕ) → port < file.reads → DependsOnNone m.assigns (read_value port) (inputs_but file (read_index port))

-- The draft may be finished, and each module that is made of it is a register file.
pub record IsFileDraft (d : Draft) (file : File) (stages : List ℕ) : Type 0 where
  pub driven : IsDriven d.nets d.assigns d.nexts d.instances
  pub port : 0 < length (ports_among d.nets)
  pub whole : (m : ModuleText) → IsModule m → IsFinished d m → IsFile m file stages

-- an output depends on the input before it alone, by the numbers of the ports
abbrev pub file_needs : ℕ → ℕ → Bool
file_needs output input = output == input + 1

abbrev pub FilesDepend : Type 0
FilesDepend = (m : ModuleText) (file : File) (stages : List ℕ) → IsFile m file stages → DependsAs m file_needs
