-- What stands for the nodes of a stage before it is served.
use Rattle.std.specs.Prelude.{◌≡◌, ◌≢◌, ℕ, ◌≤◌, ◌^◌, List, [], ◌∷◌, Some, length, slice_get}
use Rattle.std.specs.List.{AllByRecursion as Each}
use Rattle.ap_bits.specs.declared.card.Card.{Card}
use Rattle.ap_bits.specs.declared.card.Latency.TheVariants.{One}
use Rattle.ap_desc.specs.Clean.{FitsCards}
use Rattle.ap_desc.specs.Designs.{index_bits}
use Rattle.ap_desc.specs.declared.design.Design.{Design}
use Rattle.ap_desc.specs.declared.design.File.{File}
use Rattle.ap_desc.specs.declared.design.Mem.{Mem}
use Rattle.ap_desc.specs.declared.design.Node.{Node as DesignNode}
use Rattle.ap_desc.specs.declared.design.Node.TheVariants as design_node
use Rattle.ap_desc.specs.declared.design.Unit.{Unit as Resource}
use Rattle.ap_net.specs.declared.cell.Wire.{Wire}
use Rattle.ap_net.specs.Draft.{Draft, names_of}
use Rattle.ap_net.specs.Late.{IsLate}
use Rattle.ap_net.specs.Modules.{ModuleText}
use Rattle.ap_net.specs.Names.{IsNew}
use Rattle.ap_ports.specs.Numbers.{number_of_node}
use Rattle.ap_signals.specs.NetRuns.{unit_part}
use Rattle.ap_stage.specs.Served.{IsGiven}
use Rattle.ap_unit.specs.Units.{ports_by}
use Rattle.ap_stages.specs.Supplies.{supply_of}
use Rattle.ap_stages.specs.declared.nodes.Supplied.{Supplied}
use Rattle.ap_stages.specs.declared.nodes.Supply.{Supply}
use Rattle.ap_stages.specs.declared.nodes.Supply.TheVariants as by

-- the unit at this place of the design, with its card, whose operations have numbers of so many bits
pub record HasUnit (design : Design) (cards : List Card) (v bits : ℕ) : Type 0 where
  pub unit : Resource
  pub at : slice_get design.units v ≡ Some unit
  pub card : Card
  pub kind : slice_get cards unit.kind ≡ Some card
  pub some : 1 ≤ bits
  pub most : bits ≤ 64
  pub room : length card.ops ≤ 2 ^ bits

-- a unit that takes one cycle can be placed: its module is there with its ports, and the name of its instance is new
pub record StandsQuick (design : Design) (cards : List Card) (d : Draft) (modules : List ModuleText) (v place bits : ℕ) : Type 0 where
  pub has : HasUnit design cards v bits
  pub whole : ModuleText
  pub there : slice_get modules place ≡ Some whole
  pub ports : whole.ports ≡ ports_by One bits (has.unit).width
  pub new : IsNew (unit_part has.unit) (names_of d)

-- a unit of several cycles stands: three wires that are driven later reach it
pub record StandsSlow (design : Design) (cards : List Card) (d : Draft) (v : ℕ) (sel a b y : Wire) : Type 0 where
  pub has : HasUnit design cards v sel.width
  pub sel_late : IsLate d sel
  pub a_late : IsLate d a
  pub b_late : IsLate d b
  pub sel_a : sel.number ≢ a.number
  pub sel_b : sel.number ≢ b.number
  pub a_b : a.number ≢ b.number
  pub a_wide : a.width ≡ (has.unit).width
  pub b_wide : b.width ≡ (has.unit).width
  pub y_wide : y.width ≡ (has.unit).width
  pub given : IsGiven d y

-- a read port stands: the wire of its index is driven later
pub record StandsRead (d : Draft) (bits width : ℕ) (index value : Wire) : Type 0 where
  pub late : IsLate d index
  pub index_wide : index.width ≡ bits
  pub value_wide : value.width ≡ width
  pub given : IsGiven d value

-- what the node is served with stands in the draft
abbrev pub Stands : Design → List Card → Draft → List ModuleText → DesignNode → Supply → Type 0
Stands design cards d modules (design_node.Unit v) (by.Quick place bits) = StandsQuick design cards d modules v place bits
Stands design cards d modules (design_node.Unit v) (by.Slow sel a b y) = StandsSlow design cards d v sel a b y
Stands design cards d modules (design_node.FileRead file port) (by.Read index value) = (f : File) × (slice_get design.files file ≡ Some f) × StandsRead d (index_bits f) f.width index value
Stands design cards d modules (design_node.MemRead mem) (by.Read index value) = (m : Mem) × (slice_get design.mems mem ≡ Some m) × StandsRead d m.address m.width index value
Stands _ _ _ _ _ _ = ⊥

-- something is there for the node, and stands
pub record HasStanding (design : Design) (cards : List Card) (d : Draft) (modules : List ModuleText) (supplies : List Supplied) (x : DesignNode) : Type 0 where
  pub supply : Supply
  pub found : supply_of supplies (number_of_node x) ≡ Some supply
  pub stands : Stands design cards d modules x supply

-- so for each of these nodes, by the cards that the design fits
pub record AreStanding (design : Design) (d : Draft) (modules : List ModuleText) (supplies : List Supplied) (order : List DesignNode) : Type 0 where
  pub cards : List Card
  pub fits : FitsCards design cards
  pub each : Each (HasStanding design cards d modules supplies) order

-- the wires that are driven for a node where they stand already
abbrev pub wires_with : Supply → List Wire
wires_with (by.Quick place bits) = []
wires_with (by.Slow sel a b y) = sel ∷ a ∷ b ∷ []
wires_with (by.Read index value) = index ∷ []

-- no wire reaches two nodes
abbrev pub AreApartSupplies : List Supplied → Type 0
AreApartSupplies supplies = (one other : ℕ) (s t : Supply) → supply_of supplies one ≡ Some s → supply_of supplies other ≡ Some t → one ≢ other
    → Each (λ (w : Wire). Each (λ (x : Wire). x.number ≢ w.number) (wires_with t)) (wires_with s)
