-- A register file with all that belongs to it, in a processor's top.
use Rattle.std.specs.Prelude.{◌≡◌, ◌≢◌, ◌⊎◌, ℕ, ◌<◌, ◌≤◌, List, [], ◌∷◌, ◌++◌, Option, Some, None, length}
use Rattle.std.specs.List.{AllByRecursion as Each}
use Rattle.ap_desc.specs.declared.design.File.{File}
use Rattle.ap_desc.specs.Designs.{index_bits}
use Rattle.ap_net.specs.declared.cell.Wire.{Wire}
use Rattle.ap_net.specs.declared.net.ModuleNet.{ModuleNet}
use Rattle.ap_net.specs.Draft.{Draft, Extends, CanFresh, names_of}
use Rattle.ap_net.specs.Late.{StayLate}
use Rattle.ap_net.specs.Modules.{ModuleText, ports_among}
use Rattle.ap_net.specs.Names.{IsNew, IsNotNumbered}
use Rattle.ap_net.specs.Pending.{Among}
use Rattle.ap_net.specs.Ready.{Dependence, ReadyAfter, numbers}
use Rattle.ap_net.specs.Wiring.{NoneTwice}
use Rattle.ap_signals.specs.NetRuns.{file_part}
use Rattle.ap_ctl.specs.Lists.{EachPair}
use Rattle.ap_bank.specs.declared.bank.FileNets.{FileNets}
use Rattle.ap_bank.specs.declared.files.FileWrite.{FileWrite}
use Rattle.ap_bank.specs.LateNets.{IsLateWide}
use Rattle.ap_bank.specs.Placed.{IsFileWrite, IsIdle, NeedsAsFile, PlacesFile}

-- the nets are those that were given; where none were, they are always 0
abbrev pub IsGiven : ℕ → ℕ → Draft → Option FileWrite → FileWrite → Type 0
IsGiven bits width d None w = IsIdle bits width d w
IsGiven bits width d (Some port) w = w ≡ port

-- what is given has the bits of the file
abbrev pub IsPort : File → List ModuleNet → Option FileWrite → Type 0
IsPort f nets None = Unit {0}
IsPort f nets (Some port) = IsFileWrite f nets port

-- for each write port of the file its nets, or none
pub record ArePorts (f : File) (nets : List ModuleNet) (ports : List (Option FileWrite)) : Type 0 where
  pub count : length ports ≡ f.writes
  pub each : Each (IsPort f nets) ports

-- The instance came and no other, over new wires for the indices, which are driven later, and the nets of its write ports. What else came is
-- ready once the indices are; all else stays.
pub record BanksNew (f : File) (m : ModuleText) (ports : List (Option FileWrite)) (made : FileNets) (old new : Draft) : Type 0 where
  pub between : Draft
  pub writes : List FileWrite
  pub given : EachPair (IsGiven (index_bits f) f.width new) ports writes
  pub placed : PlacesFile f m made.indices writes made.shown between new
  pub count : length made.indices ≡ f.reads
  pub late_indices : Each (IsLateWide new (index_bits f)) made.indices
  pub apart : NoneTwice (numbers made.indices)
  pub extends : Extends old new
  pub nexts : new.nexts ≡ old.nexts
  pub same_ports : ports_among new.nets ≡ ports_among old.nets
  pub fresh : CanFresh new
  pub names : (name : List ℕ) → IsNotNumbered name → file_part f ≢ name → IsNew name (names_of old) → IsNew name (names_of new)
  pub late : StayLate old new
  pub came : (by : Dependence) → NeedsAsFile by m.name → (n : ℕ) → length old.nets ≤ n → n < length new.nets → Among (numbers made.indices) n ⊎ ReadyAfter by new (numbers made.indices) n
  pub above : Each (λ (w : Wire). length old.nets ≤ w.number) made.indices
  pub instances : new.instances ≡ old.instances ++ placed.of ∷ []
