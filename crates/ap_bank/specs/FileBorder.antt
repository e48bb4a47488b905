-- What the border asks of register files, from files that were placed; and ports that are never on.
use Rattle.std.specs.Prelude.{◌≡◌, ℕ, true, false, List, Option, None, Some, codes, length, slice_get}
use Rattle.ap_desc.specs.Clean.{IsClean}
use Rattle.ap_desc.specs.declared.design.Design.{Design}
use Rattle.ap_desc.specs.declared.design.File.{File}
use Rattle.ap_model.specs.declared.storage.WritePort.TheVariants as port
use Rattle.ap_model.specs.Ports.{is_used}
use Rattle.ap_net.specs.declared.cell.Wire.{Wire}
use Rattle.ap_net.specs.Draft.{Draft, Extends}
use Rattle.ap_net.specs.Modules.{ModuleText, module_named}
use Rattle.ap_net.specs.Readings.{Carries, IsSettled, Reading}
use Rattle.ap_signals.specs.DesignOutside.{enable_name, index_name, value_name}
use Rattle.ap_ctl.specs.Lists.{EachFrom}
use Rattle.ap_store.specs.FileModules.{IsFile}
use Rattle.ap_store.specs.FilePorts.{read_index, read_value}
use Rattle.ap_border.specs.Files.{HasFiles}
use Rattle.ap_border.specs.Named.{IsNamed}
use Rattle.ap_border.specs.Storages.{IsOff}
use Rattle.ap_bank.specs.declared.files.FileWrite.{FileWrite}
use Rattle.ap_bank.specs.declared.bank.FileNets.{FileNets}
use Rattle.ap_bank.specs.Banked.{BanksNew}
use Rattle.ap_bank.specs.Joins.{IsAtRest}
use Rattle.ap_bank.specs.Placed.{PlacesFile}
use Rattle.ap_bank.specs.PortStages.{AreWriteStages}

-- A write port through which some line writes is joined to the nets that show it by their names; one through which none writes is never on.
pub record IsShownPort (design : Design) (d : Draft) (file number : ℕ) (w : FileWrite) : Type 0 where
  pub enable : is_used design (port.Cell file number) ≡ true → IsNamed d (enable_name design (port.Cell file number)) w.enable
  pub index : is_used design (port.Cell file number) ≡ true → IsNamed d (index_name design (port.Cell file number)) w.index
  pub value : is_used design (port.Cell file number) ≡ true → IsNamed d (value_name design (port.Cell file number)) w.value
  pub never : is_used design (port.Cell file number) ≡ false → Carries d 1 (λ r x. x ≡ 0) w.enable

-- A register file, placed while the draft grew from one to another; its module has the stages of the lines.
pub record BanksFile (design : Design) (d : Draft) (modules : List ModuleText) (file : ℕ) (f : File) : Type 0 where
  pub whole : ModuleText
  pub found : module_named modules whole.name ≡ Some whole
  pub stages : List ℕ
  pub is_file : IsFile whole f stages
  pub are : AreWriteStages design file f.writes stages
  pub old : Draft
  pub new : Draft
  pub reads : List Wire
  pub writes : List FileWrite
  pub values : List Wire
  pub count : length writes ≡ f.writes
  pub placed : PlacesFile f whole reads writes values old new
  pub grows : Extends new d
  pub shown : EachFrom (IsShownPort design d file) 0 writes

abbrev pub BanksFiles : Design → Draft → List ModuleText → Type 0
BanksFiles design d modules = (file : ℕ) (f : File) → slice_get design.files file ≡ Some f → BanksFile design d modules file f

-- the number of the instance
abbrev pub part_of : {design : Design} {d : Draft} {modules : List ModuleText} {file : ℕ} {f : File} → BanksFile design d modules file f → ℕ
part_of h = length h.old.instances

-- They are what the border asks, each by its instance.
pub record GivesFiles (design : Design) (d : Draft) (modules : List ModuleText) (banks : BanksFiles design d modules) : Type 0 where
  pub files : HasFiles design d modules
  pub part : (file : ℕ) (f : File) (at : slice_get design.files file ≡ Some f) → (files.each file f at).k ≡ part_of (banks file f at)

abbrev pub FilesGiveBorder : Type 0
FilesGiveBorder = (design : Design) (d : Draft) (modules : List ModuleText) → IsClean design → d.name ≡ codes "top" → (banks : BanksFiles design d modules) → GivesFiles design d modules banks

-- In a reading of the draft the nets at the read ports have the values that the instance's part has there.
pub record ShowsReads (r : Reading) (k : ℕ) (reads values : List Wire) : Type 0 where
  pub asks : EachFrom (λ number w. r.parts k (read_index number) ≡ r.read w.number) 0 reads
  pub shows : EachFrom (λ number w. r.parts k (read_value number) ≡ r.read w.number) 0 values

abbrev pub FilesShowReads : Type 0
FilesShowReads = (design : Design) (d : Draft) (modules : List ModuleText) (file : ℕ) (f : File) (h : BanksFile design d modules file f) (r : Reading) → IsSettled d r → r.modules ≡ modules → ShowsReads r (part_of h) h.reads h.values

-- they go on where the draft grows
abbrev pub FilesGoOn : Type 0
FilesGoOn = (design : Design) (a b : Draft) (modules : List ModuleText) → Extends a b → BanksFiles design a modules → BanksFiles design b modules

-- a net of one bit at rest is never on
abbrev pub RestsAreOff : Type 0
RestsAreOff = (d : Draft) (name : List ℕ) (w : Wire) → IsNamed d name w → w.width ≡ 1 → IsAtRest d w → IsOff d name

-- What was given for a write port: the nets that show it by their names where some line writes through it, and nothing where none does.
abbrev pub IsNamedPort : Design → Draft → ℕ → ℕ → Option FileWrite → Type 0
IsNamedPort design d file number None = is_used design (port.Cell file number) ≡ false
IsNamedPort design d file number (Some w) = (is_used design (port.Cell file number) ≡ true) × IsNamed d (enable_name design (port.Cell file number)) w.enable × IsNamed d (index_name design (port.Cell file number)) w.index
    × IsNamed d (value_name design (port.Cell file number)) w.value

-- A file that was banked as the draft grew from a to b, and on to d, whose module is among these.
pub record IsBanked (design : Design) (d : Draft) (modules : List ModuleText) (file : ℕ) (f : File) (ports : List (Option FileWrite)) (made : FileNets) : Type 0 where
  pub whole : ModuleText
  pub found : module_named modules whole.name ≡ Some whole
  pub stages : List ℕ
  pub is_file : IsFile whole f stages
  pub are : AreWriteStages design file f.writes stages
  pub count : length ports ≡ f.writes
  pub old : Draft
  pub new : Draft
  pub banks : BanksNew f whole ports made old new
  pub grows : Extends new d
  pub named : EachFrom (IsNamedPort design d file) 0 ports

-- It is placed over the nets that show the writes, and its read ports are the nets that were made.
pub record GivesBank (design : Design) (d : Draft) (modules : List ModuleText) (file : ℕ) (f : File) (made : FileNets) : Type 0 where
  pub bank : BanksFile design d modules file f
  pub reads : bank.reads ≡ made.indices
  pub values : bank.values ≡ made.shown

abbrev pub BankedFilesArePlaced : Type 0
BankedFilesArePlaced = (design : Design) (d : Draft) (modules : List ModuleText) (file : ℕ) (f : File) (ports : List (Option FileWrite)) (made : FileNets) → IsBanked design d modules file f ports made → GivesBank design d modules file f made
