-- The register files of a finished draft, and what they store.
use Rattle.std.specs.Prelude.{◌≡◌, ◌≢◌, ℕ, ◌+◌, ◌-◌, ◌<◌, ◌≤◌, ◌==◌, false, true, List, fold, length, slice_get, slice_index, Some}
use Rattle.ap_desc.specs.declared.design.Design.{Design}
use Rattle.ap_desc.specs.declared.design.File.{File}
use Rattle.ap_image.specs.declared.image.Image.{Image}
use Rattle.ap_image.specs.declared.trace.Trace.{Trace}
use Rattle.ap_model.specs.declared.storage.Storages.{Storages}
use Rattle.ap_model.specs.declared.storage.WritePort.TheVariants as port
use Rattle.ap_model.specs.PortForms.{StoresWrites, Writing, cell_after, cells_of}
use Rattle.ap_model.specs.Ports.{file_groups, is_used, is_used_in}
use Rattle.ap_model.specs.Stored.{file_cell_value}
use Rattle.ap_net.specs.declared.cell.Wire.{Wire}
use Rattle.ap_net.specs.declared.net.Instance.{Instance}
use Rattle.ap_net.specs.Draft.{Draft}
use Rattle.ap_net.specs.Modules.{ModuleText, module_named}
use Rattle.ap_net.specs.Readings.{Carries, Reading}
use Rattle.ap_signals.specs.DesignOutside.{enable_name, index_name, value_name}
use Rattle.ap_signals.specs.NetRuns.{NetRun, file_part}
use Rattle.ap_signals.specs.NetSignals.{net_signals}
use Rattle.ap_store.specs.FileModules.{IsFile}
use Rattle.ap_store.specs.FilePorts.{write_enable, write_index, write_value}
use Rattle.ap_border.specs.Named.{IsNamed}
use Rattle.ap_border.specs.Storages.{RunsRegs}

-- the net is joined to the port of this number, and has this name
pub record IsJoined (d : Draft) (of : Instance) (number : ℕ) (name : List ℕ) : Type 0 where
  pub net : Wire
  pub joined : slice_get of.nets number ≡ Some net
  pub named : IsNamed d name net

-- a write port through which lines write: the nets that show its write are joined to it
pub record IsWritten (design : Design) (d : Draft) (of : Instance) (file number : ℕ) (f : File) : Type 0 where
  pub enable : IsJoined d of (write_enable f number) (enable_name design (port.Cell file number))
  pub index : IsJoined d of (write_index f number) (index_name design (port.Cell file number))
  pub value : IsJoined d of (write_value f number) (value_name design (port.Cell file number))

-- one through which none writes: its enable is always 0
pub record IsUnwritten (d : Draft) (of : Instance) (number : ℕ) (f : File) : Type 0 where
  pub enable : Wire
  pub joined : slice_get of.nets (write_enable f number) ≡ Some enable
  pub never : Carries d 1 (λ r x. x ≡ 0) enable

-- An instance of the file's module, where each write port has the stage of the lines that write through it.
pub record HasFile (design : Design) (d : Draft) (modules : List ModuleText) (file : ℕ) (f : File) : Type 0 where
  pub k : ℕ
  pub of : Instance
  pub placed : slice_get d.instances k ≡ Some of
  pub named : of.name ≡ file_part f
  pub other : file_part f ≢ d.name
  pub whole : ModuleText
  pub found : module_named modules of.module ≡ Some whole
  pub stages : List ℕ
  pub is_file : IsFile whole f stages
  pub count : length stages ≡ f.writes
  pub stage_of : (number stage : ℕ) → number < f.writes → 1 ≤ stage → (slice_index stages number == stage) ≡ is_used_in design stage (port.Cell file number)
  pub within : (number : ℕ) → number < f.writes → slice_index stages number ≤ design.stages - 1
  pub written : (number : ℕ) → number < f.writes → is_used design (port.Cell file number) ≡ true → IsWritten design d of file number f
  pub unwritten : (number : ℕ) → number < f.writes → is_used design (port.Cell file number) ≡ false → IsUnwritten d of number f

-- all files of the design, which has at most eight stages
pub record HasFiles (design : Design) (d : Draft) (modules : List ModuleText) : Type 0 where
  pub stages : design.stages ≤ 8
  pub each : (file : ℕ) (f : File) → slice_get design.files file ≡ Some f → HasFile design d modules file f

-- each cell stores what is written to it through the ports of its file, in the order of the groups
pub record StoresCells (design : Design) (writing : Writing) (old new : Storages) : Type 0 where
  pub file_count : length new.files ≡ length old.files
  pub cell_count : (file : ℕ) → length (cells_of new file) ≡ length (cells_of old file)
  pub cells : (file index : ℕ) → file < length old.files → index < length (cells_of old file)
      → file_cell_value new file index ≡ fold (λ value p. cell_after index value (writing p)) (file_cell_value old file index) (file_groups design file)

abbrev pub CellsAreStored : Type 0
CellsAreStored = (design : Design) (image : Image) (trace : Trace) (run : NetRun) (c : ℕ) (reading : ℕ → Reading) → (f : RunsRegs design image trace run c reading) → HasFiles design f.draft f.modules
    → (j : ℕ) → j < c → StoresCells design (net_signals design run j).write (net_signals design run j).storages (net_signals design run (j + 1)).storages

-- all storages store what is written
abbrev pub StoragesGo : Type 0
StoragesGo = (design : Design) (image : Image) (trace : Trace) (run : NetRun) (c : ℕ) (reading : ℕ → Reading) → (f : RunsRegs design image trace run c reading) → HasFiles design f.draft f.modules
    → (j : ℕ) → j < c → StoresWrites design (net_signals design run j).write (net_signals design run j).storages (net_signals design run (j + 1)).storages
