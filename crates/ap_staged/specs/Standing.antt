-- What was placed for the nodes of a design stands in a draft, so that its stages can be made of it.
use Rattle.std.specs.Prelude.{◌≡◌, ℕ, ◌≤◌, List, Some, slice_get}
use Rattle.std.specs.List.{AllByRecursion as Each}
use Rattle.ap_bits.specs.declared.card.Card.{Card}
use Rattle.ap_desc.specs.Chains.{IsChainOrder}
use Rattle.ap_desc.specs.Clean.{FitsCards, IsClean}
use Rattle.ap_desc.specs.Designs.{index_bits}
use Rattle.ap_desc.specs.declared.design.Design.{Design}
use Rattle.ap_desc.specs.declared.design.File.{File}
use Rattle.ap_desc.specs.declared.design.Mem.{Mem}
use Rattle.ap_desc.specs.declared.design.Node.{Node as DesignNode}
use Rattle.ap_desc.specs.declared.design.Unit.{Unit as Resource}
use Rattle.ap_net.specs.declared.cell.Wire.{Wire}
use Rattle.ap_net.specs.Draft.{Draft, Extends, IsKept, names_of}
use Rattle.ap_net.specs.Late.{IsLate}
use Rattle.ap_net.specs.Modules.{ModuleText}
use Rattle.ap_net.specs.Names.{IsNew}
use Rattle.ap_net.specs.Ready.{numbers}
use Rattle.ap_net.specs.Wiring.{NoneTwice}
use Rattle.ap_ports.specs.Numbers.{IsNumberedNode}
use Rattle.ap_signals.specs.NetRuns.{unit_part}
use Rattle.ap_ctl.specs.Lists.{EachPair}
use Rattle.ap_bank.specs.declared.bank.FileNets.{FileNets}
use Rattle.ap_front.specs.declared.ports.MemPorts.{MemPorts}
use Rattle.ap_front.specs.declared.ports.Ports.{Ports}
use Rattle.ap_front.specs.Ports.{HasPorts}
use Rattle.ap_parts.specs.Known.{AreKnown, HasParts, Knows}
use Rattle.ap_slow.specs.declared.place.SlowPlaced.{SlowPlaced}
use Rattle.ap_slow.specs.Placed.{IsPlaced}
use Rattle.ap_stages.specs.Stood.{AreStanding, StandsRead, StandsSlow}
use Rattle.ap_stages.specs.declared.nodes.Supplied.{Supplied}
use Rattle.ap_supply.specs.Apart.{asked_wires}
use Rattle.ap_supply.specs.Supplies.{AreSupplied, AreSuppliesOf, IsNodeIn, Placed}

-- no net or instance has the name of the instance of a unit of one cycle
abbrev pub AreNewQuick : Design → Draft → Type 0
AreNewQuick design d = (unit : ℕ) (u : Resource) → slice_get design.units unit ≡ Some u → u.latency ≤ 1 → IsNew (unit_part u) (names_of d)

-- the units of several cycles stand over their wires
abbrev pub StandsPlaced : Design → List Card → Draft → SlowPlaced → Type 0
StandsPlaced design cards d x = StandsSlow design cards d x.unit x.inputs.sel x.inputs.a x.inputs.b x.outputs.y

-- the read ports of a file stand at these nets
abbrev pub StandsFile : Draft → File → FileNets → Type 0
StandsFile d f nets = (port : ℕ) (index value : Wire) → slice_get nets.indices port ≡ Some index → slice_get nets.shown port ≡ Some value → StandsRead d (index_bits f) f.width index value

-- a memory can be read at its ports
abbrev pub StandsMem : Draft → Mem → MemPorts → Type 0
StandsMem d m q = StandsRead d m.address m.width q.read_address q.read

-- All that was placed stands in the draft.
pub record StandsIn (design : Design) (cards : List Card) (d : Draft) (p : Placed) : Type 0 where
  pub quick : AreNewQuick design d
  pub slow_stand : Each (StandsPlaced design cards d) p.slow
  pub files_stand : EachPair (StandsFile d) design.files p.files
  pub mems_stand : EachPair (StandsMem d) design.mems p.mems

-- a node of the design, by a number of its own
pub record IsNumberedIn (design : Design) (x : DesignNode) : Type 0 where
  pub inside : IsNodeIn design x
  pub numbered : IsNumberedNode x

-- Those of a stage's order are.
abbrev pub OrdersAreNumbered : Type 0
OrdersAreNumbered = (design : Design) (stage : ℕ) (order : List DesignNode) → IsClean design → IsChainOrder design stage order → Each (IsNumberedIn design) order

-- So nodes of the design can be served, with units of one cycle over modules that have the design's parts.
abbrev pub SuppliesStand : Type 0
SuppliesStand = (knows : Knows) (cards : List Card) (design : Design) (d : Draft) (p : Placed) (kinds : ℕ) (supplies : List Supplied) (order : List DesignNode) → FitsCards design cards → HasParts knows cards design p.modules
    → AreKnown knows design p.modules p.places kinds → StandsIn design cards d p → AreSuppliesOf design p supplies → AreSupplied design supplies → Each (IsNumberedIn design) order → AreStanding design d p.modules supplies order

-- A unit of several cycles that was placed over modules that a top knows stands in each later draft in which its wires are driven later still.
abbrev pub PlacedUnitsStand : Type 0
PlacedUnitsStand = (knows : Knows) (cards : List Card) (design : Design) (a d : Draft) (own : List ModuleText) (places : List ℕ) (kinds : ℕ) (x : SlowPlaced) → FitsCards design cards → HasParts knows cards design own
    → AreKnown knows design own places kinds → IsPlaced design own places a x → Extends a d → Each (IsLate d) (asked_wires x) → NoneTwice (numbers (asked_wires x)) → StandsPlaced design cards d x

-- So do the ports at which memories are read, where their addresses are driven later.
abbrev pub DeclaredMemsStand : Type 0
DeclaredMemsStand = (design : Design) (d : Draft) (ports : Ports) → IsKept d → HasPorts design d ports → Each (λ (m : MemPorts). IsLate d m.read_address) ports.mems → EachPair (StandsMem d) design.mems ports.mems
