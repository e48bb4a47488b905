-- What the stages of a design leave as it was, once all are made, and what they follow from.
use Rattle.std.specs.Prelude.{◌≡◌, ◌≢◌, ℕ, ◌∷◌, List, Some, length, slice_get}
use Rattle.std.specs.List.{AllByRecursion as Each}
use Rattle.ap_bits.specs.declared.card.Card.{Card}
use Rattle.ap_desc.specs.Chains.{IsNodeOf}
use Rattle.ap_desc.specs.Clean.{FitsCards, IsClean}
use Rattle.ap_desc.specs.declared.design.Design.{Design}
use Rattle.ap_desc.specs.declared.design.Node.{Node as DesignNode}
use Rattle.ap_desc.specs.declared.design.Node.TheVariants as design_node
use Rattle.ap_desc.specs.declared.design.Unit.{Unit as Resource}
use Rattle.ap_merge.specs.declared.table.Choice.{Choice}
use Rattle.ap_net.specs.declared.cell.Wire.{Wire}
use Rattle.ap_net.specs.declared.net.Instance.{Instance}
use Rattle.ap_net.specs.Draft.{Draft, Extends, IsKept, names_of}
use Rattle.ap_net.specs.Late.{IsLate}
use Rattle.ap_net.specs.Modules.{Connects, ModuleText}
use Rattle.ap_net.specs.Names.{IsNew, IsNotNumbered}
use Rattle.ap_net.specs.Pending.{Among}
use Rattle.ap_net.specs.Ready.{Dependence, ReadyAfter, numbers}
use Rattle.ap_path.specs.Tables.{AreOrdersOf}
use Rattle.ap_pipe.specs.declared.table.StageSlots.{StageSlots}
use Rattle.ap_ports.specs.Numbers.{IsNumberedNode, number_of_node}
use Rattle.ap_signals.specs.NetRuns.{unit_part}
use Rattle.ap_stage.specs.Reads.{AreReadyAfter, IsNone}
use Rattle.ap_stage.specs.Served.{stage_wires}
use Rattle.ap_stages.specs.Staged.{stage_numbers}
use Rattle.ap_stages.specs.Stages.{AreAllReady, AreStaged, all_nodes}
use Rattle.ap_stages.specs.Stood.{AreApartSupplies, Stands, wires_with}
use Rattle.ap_stages.specs.Supplies.{supply_of}
use Rattle.ap_stages.specs.declared.begin.SharedNets.{SharedNets}
use Rattle.ap_stages.specs.declared.begin.StageNets.{StageNets}
use Rattle.ap_stages.specs.declared.nodes.Supplied.{Supplied}
use Rattle.ap_stages.specs.declared.nodes.Supply.{Supply}
use Rattle.ap_stages.specs.declared.nodes.Supply.TheVariants as supply
use Rattle.ap_stages.specs.declared.stage.ServedStage.{ServedStage}

-- what is given there is ready once the wires are that are driven for the node, and these nets
abbrev pub IsReadySupply : Dependence → Draft → List ℕ → Supply → Type 0
IsReadySupply by d base (supply.Quick place bits) = Unit {0}
IsReadySupply by d base (supply.Slow sel a b y) = ReadyAfter by d (sel.number ∷ a.number ∷ b.number ∷ base) y.number
IsReadySupply by d base (supply.Read index value) = ReadyAfter by d (index.number ∷ base) value.number

-- What came, what was driven and all nets of the stages' instructions are ready once the nets on which each stage stands are, and what is
-- given for nodes.
abbrev pub StagesAreReady : Type 0
StagesAreReady = (design : Design) (slots : List StageSlots) (choices : List Choice) (supplies : List Supplied) (orders : List (List DesignNode)) (modules : List ModuleText) (shared : SharedNets) (owns : List StageNets) (old new : Draft) (stages : List ServedStage)
    → AreStaged design slots choices supplies orders modules shared owns old new stages → (by : Dependence) (base : List ℕ) → Each (λ (own : StageNets). AreReadyAfter by old base (stage_numbers shared own)) owns
    → Each (λ (s : Supplied). IsReadySupply by old base s.supply) supplies → AreAllReady by base old new stages

-- A wire that is there for no node is late still.
abbrev pub StagesLeaveWires : Type 0
StagesLeaveWires = (design : Design) (slots : List StageSlots) (choices : List Choice) (supplies : List Supplied) (orders : List (List DesignNode)) (modules : List ModuleText) (shared : SharedNets) (owns : List StageNets) (old new : Draft) (stages : List ServedStage)
    → AreStaged design slots choices supplies orders modules shared owns old new stages → (w : Wire) → Each (λ (s : Supplied). IsNone (wires_with s.supply) w) supplies → IsLate old w → IsLate new w

-- the node is in none of these orders
abbrev pub IsInNone : List (List DesignNode) → DesignNode → Type 0
IsInNone orders x = (k : ℕ) (order : List DesignNode) (j : ℕ) (y : DesignNode) → slice_get orders k ≡ Some order → slice_get order j ≡ Some y → number_of_node y ≢ number_of_node x

-- A node that no line uses is in none of a design's orders.
abbrev pub UnusedAreInNone : Type 0
UnusedAreInNone = (design : Design) (cards : List Card) (orders : List (List DesignNode)) (x : DesignNode) → FitsCards design cards → AreOrdersOf design orders → IsNumberedNode x → ((stage : ℕ) → IsNodeOf design stage x → ⊥) → IsInNone orders x

-- no unit in these orders has the name
abbrev pub IsNameOfNone : Design → List (List DesignNode) → List ℕ → Type 0
IsNameOfNone design orders name = (v : ℕ) (u : Resource) → slice_get design.units v ≡ Some u → unit_part u ≡ name → IsInNone orders (design_node.Unit v)

-- The name of a unit that is in none of these orders is of that sort.
abbrev pub UnusedAreUnnamed : Type 0
UnusedAreUnnamed = (design : Design) (orders : List (List DesignNode)) (v : ℕ) (u : Resource) → IsClean design → slice_get design.units v ≡ Some u → IsInNone orders (design_node.Unit v) → IsNameOfNone design orders (unit_part u)

-- A name that no stage's unit has is new still.
abbrev pub StagesLeaveNames : Type 0
StagesLeaveNames = (design : Design) (slots : List StageSlots) (choices : List Choice) (supplies : List Supplied) (orders : List (List DesignNode)) (modules : List ModuleText) (shared : SharedNets) (owns : List StageNets) (old new : Draft) (stages : List ServedStage)
    → AreStaged design slots choices supplies orders modules shared owns old new stages → (name : List ℕ) → IsNotNumbered name → IsNameOfNone design orders name → IsNew name (names_of old) → IsNew name (names_of new)

-- What stands for a node that no stage has stands still.
abbrev pub StagesLeaveNodes : Type 0
StagesLeaveNodes = (design : Design) (slots : List StageSlots) (choices : List Choice) (supplies : List Supplied) (orders : List (List DesignNode)) (modules : List ModuleText) (shared : SharedNets) (owns : List StageNets) (old new : Draft) (stages : List ServedStage)
    → AreStaged design slots choices supplies orders modules shared owns old new stages → IsClean design → AreApartSupplies supplies → (cards : List Card) (x : DesignNode) (s : Supply) → supply_of supplies (number_of_node x) ≡ Some s → IsInNone orders x
    → Stands design cards old modules x s → Stands design cards new modules x s

-- What is there for a node of some stage is driven.
abbrev pub NodesAreDriven : Type 0
NodesAreDriven = (design : Design) (slots : List StageSlots) (choices : List Choice) (supplies : List Supplied) (orders : List (List DesignNode)) (modules : List ModuleText) (shared : SharedNets) (owns : List StageNets) (old new : Draft) (stages : List ServedStage)
    → AreStaged design slots choices supplies orders modules shared owns old new stages → length stages ≡ length orders → (k : ℕ) (order : List DesignNode) (j : ℕ) (x : DesignNode) (s : Supply) → slice_get orders k ≡ Some order → slice_get order j ≡ Some x → supply_of supplies (number_of_node x) ≡ Some s
    → Each (λ (w : Wire). Among (numbers (stage_wires (all_nodes stages))) w.number) (wires_with s)

-- the instance connects one of these modules
abbrev pub IsJoined : List ModuleText → Instance → Type 0
IsJoined modules i = (place : ℕ) × (m : ModuleText) × (slice_get modules place ≡ Some m) × Connects m i

-- Each instance that was placed connects one of the modules that were given, where the draft keeps the rules of a module.
abbrev pub PlacedAreJoined : Type 0
PlacedAreJoined = (design : Design) (slots : List StageSlots) (choices : List Choice) (supplies : List Supplied) (orders : List (List DesignNode)) (modules : List ModuleText) (shared : SharedNets) (owns : List StageNets) (old new later : Draft) (stages : List ServedStage)
    → (staged : AreStaged design slots choices supplies orders modules shared owns old new stages) → Extends new later → IsKept later → Each (IsJoined modules) (staged.serves.placed)
