-- Ports that serve the instructions of a stage.
use Rattle.std.specs.Prelude.{◌≡◌, ◌≢◌, ℕ, ◌<◌, List, [], ◌∷◌, ◌++◌, Some, length, map, slice_get}
use Rattle.std.specs.List.{AllByRecursion as Each}
use Rattle.ap_bits.specs.Cards.{operation_value}
use Rattle.ap_bits.specs.declared.card.Card.{Card}
use Rattle.ap_bits.specs.declared.card.Latency.TheVariants.{One}
use Rattle.ap_net.specs.declared.cell.Wire.{Wire}
use Rattle.ap_net.specs.declared.net.Instance.{Instance}
use Rattle.ap_net.specs.Cells.{IsNet}
use Rattle.ap_net.specs.Draft.{Draft, names_of}
use Rattle.ap_net.specs.Late.{IsLate}
use Rattle.ap_net.specs.Modules.{Connects, ModuleText, module_named}
use Rattle.ap_net.specs.Names.{IsNetName, IsNew, IsNotNumbered}
use Rattle.ap_net.specs.Readings.{Carries, Reading}
use Rattle.ap_net.specs.Ready.{Dependence, ReadyAfter}
use Rattle.ap_unit.specs.Units.{Computes, ports_by}
use Rattle.ap_merge.specs.Selects.{GoesOver, depth}
use Rattle.ap_merge.specs.declared.table.Select.{Select}
use Rattle.ap_stage.specs.declared.chain.Node.{Node}
use Rattle.ap_stage.specs.declared.chain.Node.TheVariants as node
use Rattle.ap_stage.specs.declared.node.Course.{Course}
use Rattle.ap_stage.specs.declared.node.PortUse.{PortUse}
use Rattle.ap_stage.specs.declared.serve.QuickUnit.{QuickUnit}
use Rattle.ap_stage.specs.declared.serve.ReadPort.{ReadPort}
use Rattle.ap_stage.specs.declared.serve.SlowUnit.{SlowUnit}
use Rattle.ap_stage.specs.declared.source.Ground.{Ground}
use Rattle.ap_stage.specs.declared.user.Part.{Part}
use Rattle.ap_stage.specs.declared.user.Part.TheVariants as part
use Rattle.ap_stage.specs.Courses.{CanServe, FitsRead, FitsUnit, HandsIn, HasResult, IsOnlyUser, IsUnserved, courses_numbers, part_value, users_of}
use Rattle.ap_stage.specs.Placed.{PlacesUnit}
use Rattle.ap_stage.specs.Reads.{AreReadyAfter, CameReady, Serves}
use Rattle.ap_stage.specs.Trees.{IsShallow}

-- the number by which the stage knows the port
abbrev pub port_of : Node → ℕ
port_of (node.Quick u) = u.port
port_of (node.Slow u) = u.port
port_of (node.Read p) = p.port

-- the wires that are driven for it where they were declared earlier
abbrev pub wires_of : Node → List Wire
wires_of (node.Quick u) = []
wires_of (node.Slow u) = u.sel ∷ u.a ∷ u.b ∷ []
wires_of (node.Read p) = p.index ∷ []

abbrev pub stage_wires : List Node → List Wire
stage_wires [] = []
stage_wires (n ∷ nodes) = wires_of n ++ stage_wires nodes

-- the names of the instances that are placed for it
abbrev pub names_placed : Node → List (List ℕ)
names_placed (node.Quick u) = u.name ∷ []
names_placed (node.Slow u) = []
names_placed (node.Read p) = []

abbrev pub stage_names : List Node → List (List ℕ)
stage_names [] = []
stage_names (n ∷ nodes) = names_placed n ++ stage_names nodes

-- What can be served.

-- the selection goes over the port's users, and the locals of what it gives have no nets
pub record IsServable (courses : List Course) (port : ℕ) (select : Select) : Type 0 where
  pub over : GoesOver select 0 (length (users_of port courses))
  pub unserved : Each (IsUnserved port) courses

-- A unit that takes one cycle can be placed: the module has its ports, the name is new, and the lines that use it fit it.
pub record IsQuick (d : Draft) (ground : Ground) (courses : List Course) (u : QuickUnit) (m : ModuleText) : Type 0 where
  pub servable : IsServable courses u.port u.select
  pub ports : m.ports ≡ ports_by One u.select_width u.width
  pub is_name : IsNetName u.name
  pub other : IsNotNumbered u.name
  pub new : IsNew u.name (names_of d)
  pub fit : Each (FitsUnit ground u.select_width u.width) (users_of u.port courses)

-- what a port gives is there, with no `? :` before it
pub record IsGiven (d : Draft) (y : Wire) : Type 0 where
  pub net : IsNet d.nets y
  pub low : IsShallow d 0 y.number

-- A unit of several cycles stands already: three wires reach it that aren't driven yet, and the lines that use it fit it.
pub record IsSlow (d : Draft) (ground : Ground) (courses : List Course) (u : SlowUnit) : Type 0 where
  pub servable : IsServable courses u.port u.select
  pub sel : IsLate d u.sel
  pub a : IsLate d u.a
  pub b : IsLate d u.b
  pub sel_a : u.sel.number ≢ u.a.number
  pub sel_b : u.sel.number ≢ u.b.number
  pub a_b : u.a.number ≢ u.b.number
  pub same : u.b.width ≡ u.a.width
  pub wide : u.y.width ≡ u.a.width
  pub y : IsGiven d u.y
  pub fit : Each (FitsUnit ground u.sel.width u.a.width) (users_of u.port courses)

-- A read port stands already: the wire of its index isn't driven yet, and the lines that use it fit it.
pub record IsReader (d : Draft) (ground : Ground) (courses : List Course) (p : ReadPort) : Type 0 where
  pub servable : IsServable courses p.port p.select
  pub index : IsLate d p.index
  pub value : IsGiven d p.value
  pub fit : Each (FitsRead ground p.index.width p.value.width) (users_of p.port courses)

-- What is served.

-- The wire has what that user hands in for the part whose condition alone is 1. Before it stand no more `? :` than the selection asks
-- questions.
pub record IsPartOf (d : Draft) (ground : Ground) (courses : List Course) (port : ℕ) (p : Part) (select : Select) (to : Wire) : Type 0 where
  pub carries : Carries d to.width (HandsIn ground (users_of port courses) p) to
  pub low : IsShallow d (depth select) to.number

-- In every netlist whose module of this name computes by a card: where the condition of one user is 1 and no other user's, y is the value
-- of this user's operation on its operands.
abbrev pub GivesResult : Ground → List ℕ → ℕ → List (Course × PortUse) → Reading → ℕ → Type 0
GivesResult ground name w users r y = (place : ℕ) (user : Course × PortUse) → slice_get users place ≡ Some user → IsOnlyUser r users place
    → (m : ModuleText) (card : Card) → module_named r.modules name ≡ Some m → Computes m card w → part_value r ground user part.Operation < length card.ops
    → y ≡ operation_value card w (part_value r ground user part.Operation) (part_value r ground user part.First) (part_value r ground user part.Second)

-- One instance was placed, of this name and of this unit. Before each of its nets stand no more `? :` than the selection asks questions.
pub record PlacesOnce (name : List ℕ) (unit : ModuleText) (choice : Select) (old new : Draft) : Type 0 where
  pub nets : List Wire
  pub places : PlacesUnit name unit nets old new
  pub low : Each (λ (w : Wire). IsShallow new (depth choice) w.number) nets

-- The unit serves these instructions: its result is that of each user, where its condition alone is 1, and stands at its local.
pub record IsServed (d : Draft) (ground : Ground) (name : List ℕ) (port w : ℕ) (courses : List Course) : Type 0 where
  pub y : Wire
  pub can : CanServe (users_of port courses)
  pub gives : Carries d w (GivesResult ground name w (users_of port courses)) y
  pub has : Each (HasResult port y) courses

-- the instance has this name and connects this unit, and before each of its nets stand no more `? :` than its selection asks questions
pub record IsPlacedUnit (d : Draft) (u : QuickUnit) (m : ModuleText) (placed : Instance) : Type 0 where
  pub named : placed.name ≡ u.name
  pub connects : Connects m placed
  pub low : Each (λ (w : Wire). IsShallow d (depth u.select) w.number) placed.nets

-- A unit that takes one cycle serves, and one instance of it stands there.
pub record IsServedQuick (d : Draft) (ground : Ground) (modules : List ModuleText) (u : QuickUnit) (courses : List Course) : Type 0 where
  pub m : ModuleText
  pub is_module : slice_get modules u.module ≡ Some m
  pub served : IsServed d ground m.name u.port u.width courses
  pub k : ℕ
  pub of : Instance
  pub placed : slice_get d.instances k ≡ Some of
  pub is_unit : IsPlacedUnit d u m of

-- A unit of several cycles serves: what reaches it is what that user asks whose condition alone is 1, and its result stands at each user's
-- local.
pub record IsServedSlow (d : Draft) (ground : Ground) (u : SlowUnit) (courses : List Course) : Type 0 where
  pub can : CanServe (users_of u.port courses)
  pub sel : IsPartOf d ground courses u.port part.Operation u.select u.sel
  pub a : IsPartOf d ground courses u.port part.First u.select u.a
  pub b : IsPartOf d ground courses u.port part.Second u.select u.b
  pub has : Each (HasResult u.port u.y) courses

-- A read port serves: its index is that of the user whose condition alone is 1, and what is read stands at each user's local.
pub record IsServedRead (d : Draft) (ground : Ground) (p : ReadPort) (courses : List Course) : Type 0 where
  pub can : CanServe (users_of p.port courses)
  pub index : IsPartOf d ground courses p.port part.First p.select p.index
  pub has : Each (HasResult p.port p.value) courses

-- What is ready.

-- what a port gives is ready once the wires are that are driven for it, and these nets
abbrev pub IsReadyNode : Dependence → Draft → List ℕ → Node → Type 0
IsReadyNode by d base (node.Quick u) = Unit {0}
IsReadyNode by d base (node.Slow u) = ReadyAfter by d (u.sel.number ∷ u.a.number ∷ u.b.number ∷ base) u.y.number
IsReadyNode by d base (node.Read p) = ReadyAfter by d (p.index.number ∷ base) p.value.number

-- what came, the wires that were driven, and all nets of the instructions are ready once these are
pub record AreServedReady (by : Dependence) (base : List ℕ) (ground : Ground) (old new : Draft) (driven : List Wire) (courses : List Course) : Type 0 where
  pub came : CameReady by base old new
  pub wires : Each (λ (w : Wire). ReadyAfter by new base w.number) driven
  pub rows : AreReadyAfter by new base (courses_numbers ground courses)

-- Where all nets of the instructions are ready once these are, so is what came, and what was driven.
abbrev pub StayReady : Ground → List Node → Draft → List Course → Draft → List Course → Type 0
StayReady ground nodes old courses new served = (by : Dependence) (base : List ℕ) → AreReadyAfter by old base (courses_numbers ground courses) → Each (IsReadyNode by old base) nodes
    → AreServedReady by base ground old new (stage_wires nodes) served

-- The ports are served: an instance was placed for each unit of one cycle, in their order, the wires of the others were driven, and nothing
-- else changed.
pub record ServesNodes (nodes : List Node) (old new : Draft) : Type 0 where
  pub placed : List Instance
  pub named : map (λ (i : Instance). i.name) placed ≡ stage_names nodes
  pub serves : Serves placed (stage_wires nodes) old new
