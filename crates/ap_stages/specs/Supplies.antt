-- With what the nodes of a design are served in their stage.
use Rattle.std.specs.Prelude.{◌≡◌, ℕ, ◌==◌, ◌&&◌, ◌+◌, ◌*◌, ◌<◌, Bool, false, Any, Contains, List, Option, Some, IsSomeAnd, find, length, slice_get}
use Rattle.std.specs.Option.{option_map}
use Rattle.ap_course.specs.Choices.{port_of_node}
use Rattle.ap_desc.specs.declared.design.Design.{Design}
use Rattle.ap_desc.specs.declared.design.Node.{Node as DesignNode}
use Rattle.ap_desc.specs.declared.design.Node.TheVariants as design_node
use Rattle.ap_desc.specs.declared.design.Unit.{Unit as Resource}
use Rattle.ap_merge.specs.Choices.{HasOperand}
use Rattle.ap_merge.specs.declared.table.Choice.{Choice}
use Rattle.ap_merge.specs.declared.table.Select.{Select}
use Rattle.ap_net.specs.Names.{IsNetName}
use Rattle.ap_path.specs.Uses.{path_port}
use Rattle.ap_path.specs.declared.table.PathPort.{PathPort}
use Rattle.ap_path.specs.declared.table.PathPort.TheVariants as path
use Rattle.ap_ports.specs.Numbers.{IsNumberedNode, number_of_node}
use Rattle.ap_signals.specs.NetRuns.{unit_part}
use Rattle.ap_stage.specs.declared.chain.Node.{Node}
use Rattle.ap_stage.specs.declared.chain.Node.TheVariants as node
use Rattle.ap_stage.specs.declared.serve.QuickUnit.{QuickUnit}
use Rattle.ap_stages.specs.declared.nodes.Supplied.{Supplied}
use Rattle.ap_stages.specs.declared.nodes.Supply.{Supply}
use Rattle.ap_stages.specs.declared.nodes.Supply.TheVariants as by

-- with what the node of this number is served: the first of these that is for it
abbrev pub supply_of : List Supplied → ℕ → Option Supply
supply_of supplies number = option_map (λ (s : Supplied). s.supply) (find (λ (s : Supplied). s.number == number) supplies)

-- the port is that of the node
abbrev pub is_its_port : DesignNode → PathPort → Bool
is_its_port (design_node.Unit u) (path.Unit v) = v == u
is_its_port (design_node.FileRead file port) (path.FileRead other number) = (other == file) && (number == port)
is_its_port (design_node.MemRead mem) (path.MemRead other) = other == mem
is_its_port _ _ = false

-- the choice is for the first operand of the node
abbrev pub is_first_of : DesignNode → Choice → Bool
is_first_of x c = (c.operand == 0) && is_its_port x c.port

-- a unit of the design that takes one cycle, as a stage places it
abbrev pub quick_of : Resource → ℕ → Select → ℕ → ℕ → QuickUnit
quick_of u number choice whole bits = record { port = number; select = choice; name = unit_part u; «module» = whole; select_width = bits; width = u.width }

-- The port of the stage is that of the node: it has its number, this selection, and this is with what it is served.
abbrev pub IsNodeBy : Design → Select → DesignNode → Supply → Node → Type 0
IsNodeBy design choice (design_node.Unit v) (by.Quick whole bits) n = (u : Resource) × (slice_get design.units v ≡ Some u) × IsNetName (unit_part u) × (n ≡ node.Quick (quick_of u v choice whole bits))
IsNodeBy design choice (design_node.Unit v) (by.Slow sel a b y) n = n ≡ node.Slow (record { port = v; select = choice; sel = sel; a = a; b = b; y = y })
IsNodeBy design choice (design_node.FileRead file port) (by.Read index value) n = n ≡ node.Read (record { port = 32 + 4 * file + port; select = choice; index = index; value = value })
IsNodeBy design choice (design_node.MemRead mem) (by.Read index value) n = n ≡ node.Read (record { port = 64 + mem; select = choice; index = index; value = value })
IsNodeBy _ _ _ _ _ = ⊥

-- the selection is that of a choice for the node's first operand
pub record IsSelectionOf (choices : List Choice) (x : DesignNode) (select : Select) : Type 0 where
  pub choice : Choice
  pub there : Contains choices choice
  pub first : HasOperand (path_port (port_of_node x)) 0 choice
  pub is : select ≡ choice.select

-- The port has the selection for the node's first operand, and is served with what is there for the node's number.
pub record IsNodeFor (design : Design) (choices : List Choice) (supplies : List Supplied) (x : DesignNode) (n : Node) : Type 0 where
  pub select : Select
  pub selected : IsSelectionOf choices x select
  pub supply : Supply
  pub found : supply_of supplies (number_of_node x) ≡ Some supply
  pub made : IsNodeBy design select x supply n

-- the node can be served with this: a unit of the design as such, a read port as such
abbrev pub Suits : Design → DesignNode → Supply → Type 0
Suits design (design_node.Unit v) (by.Quick whole bits) = v < length design.units
Suits design (design_node.Unit v) (by.Slow sel a b y) = Unit {0}
Suits design (design_node.FileRead file port) (by.Read index value) = Unit {0}
Suits design (design_node.MemRead mem) (by.Read index value) = Unit {0}
Suits _ _ _ = ⊥

-- there is something with which the node can be served
abbrev pub IsSupplied : Design → List Supplied → DesignNode → Type 0
IsSupplied design supplies x = IsSomeAnd (supply_of supplies (number_of_node x)) (Suits design x)

-- a port can be made of the node
pub record CanMake (design : Design) (choices : List Choice) (supplies : List Supplied) (x : DesignNode) : Type 0 where
  pub chosen : Any (HasOperand (path_port (port_of_node x)) 0) choices
  pub numbered : IsNumberedNode x
  pub supplied : IsSupplied design supplies x

-- the ports are those of the nodes, in their order
pub record AreNodesFor (design : Design) (choices : List Choice) (supplies : List Supplied) (order : List DesignNode) (nodes : List Node) : Type 0 where
  pub long : length nodes ≡ length order
  pub each : (k : ℕ) (x : DesignNode) (n : Node) → slice_get order k ≡ Some x → slice_get nodes k ≡ Some n → IsNodeFor design choices supplies x n
