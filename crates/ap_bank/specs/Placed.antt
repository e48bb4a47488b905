-- Register files in a processor's top: instances over nets that may be driven later.
use Rattle.std.specs.Prelude.{◌≡◌, ◌≢◌, ℕ, ◌≤◌, List, [], ◌∷◌, ◌++◌, flat_map, length, slice_get, Some}
use Rattle.std.specs.List.{AllByRecursion as Each}
use Rattle.ap_desc.specs.declared.design.File.{File}
use Rattle.ap_desc.specs.Designs.{index_bits}
use Rattle.ap_net.specs.declared.cell.Wire.{Wire}
use Rattle.ap_net.specs.declared.net.Instance.{Instance}
use Rattle.ap_net.specs.declared.net.ModuleNet.{ModuleNet}
use Rattle.ap_net.specs.Cells.{IsNet}
use Rattle.ap_net.specs.Draft.{Draft, Extends, CanFresh, names_of}
use Rattle.ap_net.specs.Late.{StayLate}
use Rattle.ap_net.specs.Modules.{Connects, ModuleText, module_named, ports_among}
use Rattle.ap_net.specs.Names.{IsNew, IsNotNumbered}
use Rattle.ap_net.specs.Opened.{SolvesPart}
use Rattle.ap_net.specs.Pending.{CameAmong}
use Rattle.ap_net.specs.Readings.{Always, Carries}
use Rattle.ap_net.specs.Ready.{Dependence, ReadyAfter, numbers}
use Rattle.ap_signals.specs.NetRuns.{file_part}
use Rattle.ap_ctl.specs.Building.{IsBit}
use Rattle.ap_ctl.specs.Lists.{EachFrom, EachPair}
use Rattle.ap_store.specs.FileModules.{file_needs}
use Rattle.ap_store.specs.FilePorts.{read_index, read_value, write_enable, write_index, write_value}
use Rattle.ap_bank.specs.declared.files.FileWrite.{FileWrite}

-- the net is there, with so many bits
pub record IsWide (nets : List ModuleNet) (width : ℕ) (w : Wire) : Type 0 where
  pub net : IsNet nets w
  pub wide : w.width ≡ width

-- the nets of a write port have the bits of the file
pub record IsFileWrite (f : File) (nets : List ModuleNet) (w : FileWrite) : Type 0 where
  pub enable : IsBit nets w.enable
  pub index : IsWide nets (index_bits f) w.index
  pub value : IsWide nets f.width w.value

-- There is an index for each read port, and three nets for each write port.
pub record AreFileNets (f : File) (nets : List ModuleNet) (reads : List Wire) (writes : List FileWrite) : Type 0 where
  pub indices : Each (IsWide nets (index_bits f)) reads
  pub read_count : length reads ≡ f.reads
  pub written : Each (IsFileWrite f nets) writes
  pub write_count : length writes ≡ f.writes

-- a number of bits that a net may have
pub record IsFit (width : ℕ) : Type 0 where
  pub low : 1 ≤ width
  pub high : width ≤ 64

-- the nets of a write port are always 0
pub record IsIdle (bits width : ℕ) (d : Draft) (w : FileWrite) : Type 0 where
  pub enable : Carries d 1 (λ r x. x ≡ 0) w.enable
  pub index : Carries d bits (λ r x. x ≡ 0) w.index
  pub value : Carries d width (λ r x. x ≡ 0) w.value

abbrev pub write_list : FileWrite → List Wire
write_list w = w.enable ∷ w.index ∷ w.value ∷ []

-- the nets at the inputs of the module, in order
abbrev pub file_inputs : List Wire → List FileWrite → List Wire
file_inputs reads writes = reads ++ flat_map write_list writes

-- a write port's nets are joined to the instance
pub record JoinsWrite (f : File) (nets : List Wire) (number : ℕ) (w : FileWrite) : Type 0 where
  pub enable : slice_get nets (write_enable f number) ≡ Some w.enable
  pub index : slice_get nets (write_index f number) ≡ Some w.index
  pub value : slice_get nets (write_value f number) ≡ Some w.value

-- The nets of the instance, by the ports of the file.
pub record JoinsFile (f : File) (nets : List Wire) (reads values : List Wire) (writes : List FileWrite) : Type 0 where
  pub indices : EachFrom (λ number w. slice_get nets (read_index number) ≡ Some w) 0 reads
  pub shown : EachFrom (λ number w. slice_get nets (read_value number) ≡ Some w) 0 values
  pub written : EachFrom (JoinsWrite f nets) 0 writes

-- the outputs of a module of this name depend on its inputs as those of a file do
abbrev pub NeedsAsFile : Dependence → List ℕ → Type 0
NeedsAsFile by name = (output input : ℕ) → by.needs name output input ≡ file_needs output input

-- An instance of the module came, with a net for each read port, which is ready once the index of this port is; all else stays.
pub record PlacesFile (f : File) (m : ModuleText) (reads : List Wire) (writes : List FileWrite) (values : List Wire) (old new : Draft) : Type 0 where
  pub of : Instance
  pub named : of.name ≡ file_part f
  pub whole : of.module ≡ m.name
  pub placed : slice_get new.instances (length old.instances) ≡ Some of
  pub joined : JoinsFile f of.nets reads values writes
  pub count : length values ≡ f.reads
  pub shown : Each (IsWide new.nets f.width) values
  pub part : Always new (λ r. (found : ModuleText) → module_named r.modules m.name ≡ Some found → SolvesPart found of r.read (r.parts (length old.instances)))
  pub extends : Extends old new
  pub nexts : new.nexts ≡ old.nexts
  pub instances : new.instances ≡ old.instances ++ of ∷ []
  pub ports : ports_among new.nets ≡ ports_among old.nets
  pub fresh : CanFresh new
  pub names : (name : List ℕ) → IsNotNumbered name → file_part f ≢ name → IsNew name (names_of old) → IsNew name (names_of new)
  pub late : StayLate old new
  pub came : CameAmong (numbers values) old new
  pub ready : (by : Dependence) → NeedsAsFile by m.name → EachPair (λ (index value : Wire). ReadyAfter by new (index.number ∷ []) value.number) reads values
  pub connects : Connects m of
