-- The storages of a processor's top: its registers take what is written, and its files are instances.
use Rattle.std.specs.Prelude.{◌≡◌, ◌≢◌, ◌⊎◌, ℕ, ◌<◌, ◌≤◌, List, ◌++◌, drop, flat_map, length, slice_get, Some}
use Rattle.std.specs.List.{AllByRecursion as Each}
use Rattle.ap_desc.specs.declared.design.Design.{Design}
use Rattle.ap_desc.specs.declared.design.File.{File}
use Rattle.ap_net.specs.declared.net.Instance.{Instance}
use Rattle.ap_net.specs.Draft.{CanFresh, Draft, Extends, IsKept, names_of}
use Rattle.ap_net.specs.Late.{IsLate, StayLate}
use Rattle.ap_net.specs.Modules.{Connects, ModuleText, ports_among}
use Rattle.ap_net.specs.Names.{IsNew, IsNotNumbered}
use Rattle.ap_net.specs.Pending.{Among}
use Rattle.ap_net.specs.Ready.{Dependence, ReadyAfter, numbers}
use Rattle.ap_net.specs.Wiring.{NoneTwice}
use Rattle.ap_pipe.specs.declared.table.StageSlots.{StageSlots}
use Rattle.ap_signals.specs.NetRuns.{file_part}
use Rattle.ap_store.specs.FilePorts.{file_module_name, file_ports}
use Rattle.ap_ctl.specs.Lists.{EachFrom}
use Rattle.ap_bank.specs.declared.bank.FileNets.{FileNets}
use Rattle.ap_bank.specs.Banked.{BanksNew}
use Rattle.ap_bank.specs.Placed.{NeedsAsFile}
use Rattle.ap_bank.specs.Regs.{DrivesRegs}
use Rattle.ap_front.specs.declared.ports.GroupPorts.{GroupPorts}
use Rattle.ap_parts.specs.Known.{AreKnown, Knows, StandsThere}
use Rattle.ap_lead.specs.declared.store.Lead.{Lead}
use Rattle.ap_lead.specs.Declaring.{Declares}
use Rattle.ap_lead.specs.Writes.{file_writes, reg_writes}

-- these are the modules of the files, in their order
abbrev pub KnowsFiles : Design → List ModuleText → Type 0
KnowsFiles design modules = (file : ℕ) (f : File) → slice_get design.files file ≡ Some f → StandsThere modules file (file_module_name f) (file_ports f)

-- of all modules those that stand behind the ones of kinds
abbrev pub FilesAreKnown : Type 0
FilesAreKnown = (knows : Knows) (design : Design) (modules : List ModuleText) (places : List ℕ) (kinds : ℕ) → AreKnown knows design modules places kinds
    → KnowsFiles design (drop kinds modules)

-- no net or instance has the name of a file from this one on
abbrev pub HasNoFiles : Design → Draft → ℕ → Type 0
HasNoFiles design d first = (file : ℕ) (f : File) → first ≤ file → slice_get design.files file ≡ Some f → IsNew (file_part f) (names_of d)

-- the modules of the files depend as files do
abbrev pub FilesNeed : Dependence → Design → Type 0
FilesNeed by design = (file : ℕ) (f : File) → slice_get design.files file ≡ Some f → NeedsAsFile by (file_module_name f)

-- The file of this number came, an instance of a module of its name over the outputs that show its writes.
pub record StoresFile (design : Design) (groups : List GroupPorts) (file : ℕ) (nets : FileNets) (old new : Draft) : Type 0 where
  pub f : File
  pub at : slice_get design.files file ≡ Some f
  pub whole : ModuleText
  pub named : whole.name ≡ file_module_name f
  pub banks : BanksNew f whole (file_writes groups file f.writes) nets old new
  pub has : whole.ports ≡ file_ports f

-- it came while the draft grew to this one
pub record IsStored (design : Design) (groups : List GroupPorts) (d : Draft) (file : ℕ) (nets : FileNets) : Type 0 where
  pub before : Draft
  pub after : Draft
  pub stores : StoresFile design groups file nets before after
  pub grows : Extends after d

-- the instance of the file of this number: of a module with its name and its ports
pub record IsInstanceOf (design : Design) (file : ℕ) (i : Instance) : Type 0 where
  pub f : File
  pub at : slice_get design.files file ≡ Some f
  pub whole : ModuleText
  pub named : whole.name ≡ file_module_name f
  pub has : whole.ports ≡ file_ports f
  pub connects : Connects whole i

-- the indices at the read ports of files
abbrev pub index_numbers : List FileNets → List ℕ
index_numbers made = flat_map (λ (n : FileNets). numbers n.indices) made

-- The first so many files came, one after the other, an instance each and no other. What came is an index, which is driven later, or ready
-- once the indices are; all else stays. No two indices are one, and none was there before.
pub record StoresFiles (design : Design) (groups : List GroupPorts) (made : List FileNets) (old new : Draft) : Type 0 where
  pub each : EachFrom (IsStored design groups new) 0 made
  pub extends : Extends old new
  pub nexts : new.nexts ≡ old.nexts
  pub same_ports : ports_among new.nets ≡ ports_among old.nets
  pub fresh : CanFresh new
  pub names : (name : List ℕ) → IsNotNumbered name → Each (λ (f : File). file_part f ≢ name) design.files → IsNew name (names_of old) → IsNew name (names_of new)
  pub late : StayLate old new
  pub came : (by : Dependence) → FilesNeed by design → (n : ℕ) → length old.nets ≤ n → n < length new.nets → Among (index_numbers made) n ⊎ ReadyAfter by new (index_numbers made) n
  pub placed : List Instance
  pub count : length placed ≡ length made
  pub instances : new.instances ≡ old.instances ++ placed
  pub are : EachFrom (IsInstanceOf design) 0 placed
  pub late_indices : Each (λ (n : FileNets). Each (IsLate new) n.indices) made
  pub above : Each (λ n. length old.nets ≤ n) (index_numbers made)
  pub apart : NoneTwice (index_numbers made)

-- The first part of a top: all that is declared, then what the registers take, then the files.
pub record Leads (design : Design) (stages : List StageSlots) (made : Lead) (new : Draft) : Type 0 where
  pub first : Draft
  pub driven : Draft
  pub declares : Declares design stages made.declared first
  pub kept : IsKept first
  pub drives : DrivesRegs made.declared.regs (reg_writes made.declared.ports.groups (length design.regs)) first driven
  pub stores : StoresFiles design made.declared.ports.groups made.files driven new
  pub count : length made.files ≡ length design.files
