-- The list of what serves the nodes of a design, as it is made.
use Rattle.std.specs.Prelude.{◌≡◌, ℕ, ◌+◌, ◌*◌, ◌<◌, ◌≤◌, ◌++◌, ◌==◌, List, Contains, Option, Some, find, length, map, slice_get}
use Rattle.std.specs.List.{AllByRecursion as Each}
use Rattle.ap_bits.specs.declared.card.Latency.TheVariants.{One}
use Rattle.ap_desc.specs.declared.design.Design.{Design}
use Rattle.ap_desc.specs.declared.design.File.{File}
use Rattle.ap_desc.specs.declared.design.Node.TheVariants as design_node
use Rattle.ap_desc.specs.declared.design.Unit.{Unit as Resource}
use Rattle.ap_net.specs.declared.cell.Wire.{Wire}
use Rattle.ap_net.specs.Modules.{ModuleText}
use Rattle.ap_ctl.specs.Given.{slow_units}
use Rattle.ap_ctl.specs.Lists.{EachPair}
use Rattle.ap_unit.specs.Units.{ports_by}
use Rattle.ap_bank.specs.declared.bank.FileNets.{FileNets}
use Rattle.ap_front.specs.declared.ports.MemPorts.{MemPorts}
use Rattle.ap_slow.specs.declared.place.SlowPlaced.{SlowPlaced}
use Rattle.ap_slow.specs.Placed.{StandsAt}
use Rattle.ap_stages.specs.declared.nodes.Supplied.{Supplied}
use Rattle.ap_stages.specs.declared.nodes.Supply.{Supply}
use Rattle.ap_stages.specs.declared.nodes.Supply.TheVariants as by
use Rattle.ap_supply.specs.Supplies.{IsEntry, IsSupplyOf, placed_of}

-- What the units need.

-- the module of a unit of one cycle stands at the unit's place
pub record HasQuickModule (modules : List ModuleText) (places : List ℕ) (unit : ℕ) (u : Resource) : Type 0 where
  pub whole : ModuleText
  pub stands : StandsAt modules places unit whole
  pub select : ℕ
  pub ports : whole.ports ≡ ports_by One select u.width

abbrev pub HaveQuickModules : Design → List ModuleText → List ℕ → Type 0
HaveQuickModules design modules places = (unit : ℕ) (u : Resource) → slice_get design.units unit ≡ Some u → u.latency ≤ 1 → HasQuickModule modules places unit u

-- the unit of this number, as it was placed
abbrev pub slow_for : List SlowPlaced → ℕ → Option SlowPlaced
slow_for slow unit = find (λ (x : SlowPlaced). x.unit == unit) slow

-- the unit of this number was placed
pub record WasPlaced (slow : List SlowPlaced) (unit : ℕ) : Type 0 where
  pub placed : SlowPlaced
  pub among : Contains slow placed
  pub own : placed.unit ≡ unit

abbrev pub WerePlaced : Design → List SlowPlaced → Type 0
WerePlaced design slow = (unit : ℕ) (u : Resource) → slice_get design.units unit ≡ Some u → 1 < u.latency → WasPlaced slow unit

-- Where the units of several cycles were placed in their order, each was.
abbrev pub SlowWerePlaced : Type 0
SlowWerePlaced = (design : Design) (slow : List SlowPlaced) → map (λ (x : SlowPlaced). x.unit) slow ≡ slow_units design → WerePlaced design slow

-- With what a unit is served.

-- its module stands at this place, and has so many bits for the number of an operation
pub record IsQuickBy (modules : List ModuleText) (places : List ℕ) (unit width : ℕ) (s : Supply) : Type 0 where
  pub place : ℕ
  pub bits : ℕ
  pub there : slice_get places unit ≡ Some place
  pub whole : ModuleText
  pub at : slice_get modules place ≡ Some whole
  pub ports : whole.ports ≡ ports_by One bits width
  pub is : s ≡ by.Quick place bits

-- the wires over which it was placed
abbrev pub wires_of : SlowPlaced → Supply
wires_of x = by.Slow x.inputs.sel x.inputs.a x.inputs.b x.outputs.y

pub record IsSlowBy (slow : List SlowPlaced) (unit : ℕ) (s : Supply) : Type 0 where
  pub was : WasPlaced slow unit
  pub is : s ≡ wires_of was.placed

-- whatever else was placed, this serves the unit
abbrev pub ServesUnit : Design → List ModuleText → List ℕ → List SlowPlaced → ℕ → Supply → Type 0
ServesUnit design modules places slow unit s = (files : List FileNets) (mems : List MemPorts) → IsSupplyOf design (placed_of modules places slow files mems) (design_node.Unit unit) s

-- Entries of the list.

abbrev pub IsUnitEntry : Design → List ModuleText → List ℕ → List SlowPlaced → Supplied → Type 0
IsUnitEntry design modules places slow e = (files : List FileNets) (mems : List MemPorts) → IsEntry design (placed_of modules places slow files mems) e

abbrev pub IsReadEntry : Design → List FileNets → Supplied → Type 0
IsReadEntry design files e = (modules : List ModuleText) (places : List ℕ) (slow : List SlowPlaced) (mems : List MemPorts) → IsEntry design (placed_of modules places slow files mems) e

abbrev pub IsMemEntry : Design → List MemPorts → Supplied → Type 0
IsMemEntry design mems e = (modules : List ModuleText) (places : List ℕ) (slow : List SlowPlaced) (files : List FileNets) → IsEntry design (placed_of modules places slow files mems) e

-- some entry has this number
pub record IsListed (entries : List Supplied) (number : ℕ) : Type 0 where
  pub entry : Supplied
  pub among : Contains entries entry
  pub own : entry.number ≡ number

-- Entries of this sort came behind those that were there, and each of these numbers is among them.
pub record Lists (Own : Supplied → Type 0) (Wanted : ℕ → Type 0) (old new : List Supplied) : Type 0 where
  pub more : List Supplied
  pub is : new ≡ old ++ more
  pub each : Each Own more
  pub all : (number : ℕ) → Wanted number → IsListed more number

-- Numbers of nodes: of the first so many units, of the first so many read ports of a file, of those of the first so many files, and of the first
-- so many memories.

abbrev pub IsUnitNumber : ℕ → ℕ → Type 0
IsUnitNumber count number = number < count

abbrev pub IsReadNumber : ℕ → ℕ → ℕ → Type 0
IsReadNumber file count number = (port : ℕ) × (port < count) × (number ≡ 32 + 4 * file + port)

abbrev pub IsFileNumber : Design → ℕ → ℕ → Type 0
IsFileNumber design count number = (file : ℕ) × (f : File) × (file < count) × (slice_get design.files file ≡ Some f) × IsReadNumber file f.reads number

abbrev pub IsMemNumber : ℕ → ℕ → Type 0
IsMemNumber count number = (mem : ℕ) × (mem < count) × (number ≡ 64 + mem)

-- With what read ports and memories are served.

-- the entry has the two nets of the read port
pub record IsReadBy (nets : FileNets) (file port : ℕ) (e : Supplied) : Type 0 where
  pub index : Wire
  pub value : Wire
  pub index_at : slice_get nets.indices port ≡ Some index
  pub value_at : slice_get nets.shown port ≡ Some value
  pub number : e.number ≡ 32 + 4 * file + port
  pub is : e.supply ≡ by.Read index value

-- it has the ports at which the memory is read
pub record IsMemBy (mems : List MemPorts) (mem : ℕ) (e : Supplied) : Type 0 where
  pub ports : MemPorts
  pub at : slice_get mems mem ≡ Some ports
  pub number : e.number ≡ 64 + mem
  pub is : e.supply ≡ by.Read ports.read_address ports.read

-- What the read ports need.

-- there are two nets for each read port of the file
pub record HasReadNets (f : File) (nets : FileNets) : Type 0 where
  pub indices : length nets.indices ≡ f.reads
  pub shown : length nets.shown ≡ f.reads

abbrev pub HaveReadNets : Design → List FileNets → Type 0
HaveReadNets design files = EachPair HasReadNets design.files files
