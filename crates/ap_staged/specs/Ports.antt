-- The ports of a stage, made of what was placed for the design's nodes, as ports of the design.
use Rattle.std.specs.Prelude.{◌≡◌, ℕ, ◌<◌, true, List, Contains, Some, nat_lt, slice_get}
use Rattle.ap_bits.specs.declared.card.Card.{Card}
use Rattle.ap_desc.specs.Clean.{FitsCards}
use Rattle.ap_desc.specs.declared.design.Design.{Design}
use Rattle.ap_desc.specs.declared.design.File.{File}
use Rattle.ap_desc.specs.declared.design.Node.{Node as DesignNode}
use Rattle.ap_desc.specs.declared.design.Unit.{Unit as Resource}
use Rattle.ap_merge.specs.declared.table.Choice.{Choice}
use Rattle.ap_merge.specs.declared.table.Select.{Select}
use Rattle.ap_model.specs.UnitUse.{latency_of}
use Rattle.ap_net.specs.declared.cell.Wire.{Wire}
use Rattle.ap_net.specs.Draft.{Draft}
use Rattle.ap_net.specs.Modules.{ModuleText}
use Rattle.ap_stage.specs.declared.chain.Node.{Node}
use Rattle.ap_stage.specs.declared.chain.Node.TheVariants as node
use Rattle.ap_stage.specs.declared.serve.ReadPort.{ReadPort}
use Rattle.ap_stage.specs.declared.serve.SlowUnit.{SlowUnit}
use Rattle.ap_stages.specs.Supplies.{AreNodesFor, quick_of}
use Rattle.ap_stages.specs.declared.nodes.Supplied.{Supplied}
use Rattle.ap_border.specs.Files.{HasFiles}
use Rattle.ap_data.specs.Stage.{IsFileRead, IsMemRead, IsQuickOf}
use Rattle.ap_values.specs.Served.{ArePortsOf}
use Rattle.ap_bank.specs.declared.bank.FileNets.{FileNets}
use Rattle.ap_bank.specs.FileBorder.{BanksFile, BanksFiles}
use Rattle.ap_ctl.specs.Lists.{EachPair}
use Rattle.ap_front.specs.Ports.{AreMemPorts}
use Rattle.ap_parts.specs.Known.{AreKnown, HasParts, Knows}
use Rattle.ap_slow.specs.declared.place.SlowPlaced.{SlowPlaced}
use Rattle.ap_asked.specs.Served.{HasWires}
use Rattle.ap_built.specs.Top.{JoinsBanks}
use Rattle.ap_supply.specs.Listing.{HaveQuickModules}
use Rattle.ap_supply.specs.Supplies.{AreSuppliesOf, IsFileSupply, IsMemSupply, IsQuickSupply, IsSlowSupply, Placed}

-- the read ports of a banked file are at these nets
pub record HasReads (design : Design) (d : Draft) (modules : List ModuleText) (file : ℕ) (f : File) (bank : BanksFile design d modules file f) (made : List FileNets) : Type 0 where
  pub nets : FileNets
  pub at : slice_get made file ≡ Some nets
  pub reads_are : bank.reads ≡ nets.indices
  pub values_are : bank.values ≡ nets.shown

abbrev pub HaveReads : (design : Design) (d : Draft) (modules : List ModuleText) → BanksFiles design d modules → List FileNets → Type 0
HaveReads design d modules banks made = (file : ℕ) (f : File) (at : slice_get design.files file ≡ Some f) → HasReads design d modules file f (banks file f at) made

-- What was placed for the nodes, in a draft: the modules are known, the files' read ports are at these nets, and the memories have these ports.
pub record IsPlacedIn (knows : Knows) (design : Design) (d : Draft) (modules : List ModuleText) (banks : BanksFiles design d modules) (p : Placed) : Type 0 where
  pub kinds : ℕ
  pub known : AreKnown knows design p.modules p.places kinds
  pub reads : HaveReads design d modules banks p.files
  pub mems_are : EachPair (AreMemPorts d) design.mems p.mems

-- The modules that a top knows are those that its units of one cycle want.
abbrev pub KnownAreQuick : Type 0
KnownAreQuick = (knows : Knows) (design : Design) (own : List ModuleText) (places : List ℕ) (kinds : ℕ) → AreKnown knows design own places kinds → HaveQuickModules design own places

-- A unit of one cycle computes by the card of the design's unit, whatever the modules are that have the design's parts.
abbrev pub QuickUnitsAreOf : Type 0
QuickUnitsAreOf = (knows : Knows) (cards : List Card) (design : Design) (modules : List ModuleText) (p : Placed) (kinds : ℕ) → FitsCards design cards → HasParts knows cards design modules → AreKnown knows design p.modules p.places kinds
    → (unit place bits : ℕ) (u : Resource) (select : Select) → IsQuickSupply design p unit place bits → slice_get design.units unit ≡ Some u → IsQuickOf design cards modules p.modules unit (quick_of u unit select place bits)

-- One that was placed over wires that are driven later takes several.
abbrev pub SlowUnitsAreOf : Type 0
SlowUnitsAreOf = (design : Design) (p : Placed) (unit : ℕ) (sel a b y : Wire) → IsSlowSupply design p unit sel a b y → nat_lt 1 (latency_of design unit) ≡ true

-- A read port of a file is joined to the file's instance.
abbrev pub FileReadsAreOf : Type 0
FileReadsAreOf = (design : Design) (d : Draft) (modules : List ModuleText) (banks : BanksFiles design d modules) (files : HasFiles design d modules) (p : Placed) → JoinsBanks design d modules banks files → HaveReads design d modules banks p.files
    → (file port : ℕ) (r : ReadPort) → IsFileSupply design p file port r.index r.value → IsFileRead design d modules files file port r

-- The read of a memory is at the memory's ports.
abbrev pub MemReadsAreOf : Type 0
MemReadsAreOf = (design : Design) (d : Draft) (p : Placed) → EachPair (AreMemPorts d) design.mems p.mems → (mem : ℕ) (r : ReadPort) → IsMemSupply design p mem r.index r.value → IsMemRead design d mem r

-- So the ports that are made of nodes with these supplies are the design's.
abbrev pub SuppliedPortsAreOf : Type 0
SuppliedPortsAreOf = (knows : Knows) (cards : List Card) (design : Design) (d : Draft) (modules : List ModuleText) (banks : BanksFiles design d modules) (files : HasFiles design d modules) (p : Placed) (choices : List Choice) (supplies : List Supplied)
    (order : List DesignNode) (nodes : List Node) → FitsCards design cards → HasParts knows cards design modules → IsPlacedIn knows design d modules banks p → JoinsBanks design d modules banks files → AreSuppliesOf design p supplies
    → AreNodesFor design choices supplies order nodes → ArePortsOf design cards d modules files p.modules nodes

-- a port has the wires of the unit of its number, as it was placed
pub record JoinsPlaced (p : Placed) (x : SlowUnit) : Type 0 where
  pub placed : SlowPlaced
  pub among : Contains p.slow placed
  pub own : placed.unit ≡ x.port
  pub wires : HasWires x placed

-- Each port of several cycles has the wires of a unit that was placed.
abbrev pub SlowPortsArePlaced : Type 0
SlowPortsArePlaced = (design : Design) (p : Placed) (choices : List Choice) (supplies : List Supplied) (order : List DesignNode) (nodes : List Node) → AreSuppliesOf design p supplies → AreNodesFor design choices supplies order nodes
    → (place : ℕ) (x : SlowUnit) → slice_get nodes place ≡ Some (node.Slow x) → x.port < 32 → JoinsPlaced p x
