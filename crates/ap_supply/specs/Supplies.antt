-- With what the nodes of a design are served, by what was placed for them.
use Rattle.std.specs.Prelude.{◌≡◌, ℕ, ◌<◌, ◌≤◌, List, Contains, Some, length, slice_get}
use Rattle.std.specs.List.{AllByRecursion as Each}
use Rattle.ap_bits.specs.declared.card.Latency.TheVariants.{One}
use Rattle.ap_desc.specs.declared.design.Design.{Design}
use Rattle.ap_desc.specs.declared.design.File.{File}
use Rattle.ap_desc.specs.declared.design.Mem.{Mem}
use Rattle.ap_desc.specs.declared.design.Node.{Node as DesignNode}
use Rattle.ap_desc.specs.declared.design.Node.TheVariants as design_node
use Rattle.ap_desc.specs.declared.design.Unit.{Unit as Resource}
use Rattle.ap_net.specs.declared.cell.Wire.{Wire}
use Rattle.ap_net.specs.Modules.{ModuleText}
use Rattle.ap_ports.specs.Numbers.{IsNumberedNode, number_of_node}
use Rattle.ap_unit.specs.Units.{ports_by}
use Rattle.ap_bank.specs.declared.bank.FileNets.{FileNets}
use Rattle.ap_front.specs.declared.ports.MemPorts.{MemPorts}
use Rattle.ap_slow.specs.declared.place.SlowPlaced.{SlowPlaced}
use Rattle.ap_stages.specs.Supplies.{supply_of}
use Rattle.ap_stages.specs.declared.nodes.Supplied.{Supplied}
use Rattle.ap_stages.specs.declared.nodes.Supply.{Supply}
use Rattle.ap_stages.specs.declared.nodes.Supply.TheVariants as by

-- What was placed for the nodes of a design: for each unit the place of its module among these, the units of several cycles, the nets at the
-- read ports of each file, and the ports of each memory.
pub record Placed : Type 0 where
  pub modules : List ModuleText
  pub places : List ℕ
  pub slow : List SlowPlaced
  pub files : List FileNets
  pub mems : List MemPorts

abbrev pub placed_of : List ModuleText → List ℕ → List SlowPlaced → List FileNets → List MemPorts → Placed
placed_of modules places slow files mems = record { modules = modules; places = places; slow = slow; files = files; mems = mems }

-- the module of a unit of one cycle stands at the unit's place, and has so many bits for the number of an operation
pub record IsQuickSupply (design : Design) (p : Placed) (unit place bits : ℕ) : Type 0 where
  pub resource : Resource
  pub at : slice_get design.units unit ≡ Some resource
  pub fast : resource.latency ≤ 1
  pub there : slice_get p.places unit ≡ Some place
  pub whole : ModuleText
  pub stands : slice_get p.modules place ≡ Some whole
  pub ports : whole.ports ≡ ports_by One bits resource.width

-- a unit of several cycles was placed over these wires
pub record IsSlowSupply (design : Design) (p : Placed) (unit : ℕ) (sel a b y : Wire) : Type 0 where
  pub resource : Resource
  pub at : slice_get design.units unit ≡ Some resource
  pub several : 1 < resource.latency
  pub placed : SlowPlaced
  pub among : Contains p.slow placed
  pub own : placed.unit ≡ unit
  pub sel_is : sel ≡ placed.inputs.sel
  pub a_is : a ≡ placed.inputs.a
  pub b_is : b ≡ placed.inputs.b
  pub y_is : y ≡ placed.outputs.y

-- these are the nets at the read port of the file
pub record IsFileSupply (design : Design) (p : Placed) (file port : ℕ) (index value : Wire) : Type 0 where
  pub of : File
  pub at : slice_get design.files file ≡ Some of
  pub nets : FileNets
  pub made : slice_get p.files file ≡ Some nets
  pub index_at : slice_get nets.indices port ≡ Some index
  pub value_at : slice_get nets.shown port ≡ Some value

-- these are the ports at which the memory is read
pub record IsMemSupply (design : Design) (p : Placed) (mem : ℕ) (index value : Wire) : Type 0 where
  pub of : Mem
  pub at : slice_get design.mems mem ≡ Some of
  pub ports : MemPorts
  pub made : slice_get p.mems mem ≡ Some ports
  pub index_is : index ≡ ports.read_address
  pub value_is : value ≡ ports.read

-- what serves the node was placed for it
abbrev pub IsSupplyOf : Design → Placed → DesignNode → Supply → Type 0
IsSupplyOf design p (design_node.Unit unit) (by.Quick place bits) = IsQuickSupply design p unit place bits
IsSupplyOf design p (design_node.Unit unit) (by.Slow sel a b y) = IsSlowSupply design p unit sel a b y
IsSupplyOf design p (design_node.FileRead file port) (by.Read index value) = IsFileSupply design p file port index value
IsSupplyOf design p (design_node.MemRead mem) (by.Read index value) = IsMemSupply design p mem index value
IsSupplyOf _ _ _ _ = ⊥

-- what is there for the number of a node is of the node
abbrev pub AreSuppliesOf : Design → Placed → List Supplied → Type 0
AreSuppliesOf design p supplies = (x : DesignNode) (s : Supply) → IsNumberedNode x → supply_of supplies (number_of_node x) ≡ Some s → IsSupplyOf design p x s

-- a unit, a read port or a memory that the design has
abbrev pub IsNodeIn : Design → DesignNode → Type 0
IsNodeIn design (design_node.Unit unit) = unit < length design.units
IsNodeIn design (design_node.FileRead file port) = (f : File) × (slice_get design.files file ≡ Some f) × (port < f.reads)
IsNodeIn design (design_node.MemRead mem) = mem < length design.mems

-- for each of these something is there
abbrev pub AreSupplied : Design → List Supplied → Type 0
AreSupplied design supplies = (x : DesignNode) → IsNodeIn design x → (s : Supply) × (supply_of supplies (number_of_node x) ≡ Some s)

-- it has the number of a node, and is of this
pub record IsEntry (design : Design) (p : Placed) (e : Supplied) : Type 0 where
  pub node : DesignNode
  pub numbered : IsNumberedNode node
  pub number : e.number ≡ number_of_node node
  pub of : IsSupplyOf design p node e.supply

-- Where each is for a node, what is there for the number of a node is of the node.
abbrev pub EntriesAreSupplies : Type 0
EntriesAreSupplies = (design : Design) (p : Placed) (supplies : List Supplied) → Each (IsEntry design p) supplies → AreSuppliesOf design p supplies
