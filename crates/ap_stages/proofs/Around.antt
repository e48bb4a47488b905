-- What the stages of a design leave as it was, and what they follow from.
use Rattle.std.proofs.Common.{◌≡◌, ℕ, zero, suc, ◌+◌, ◌==◌, List, [], ◌∷◌, ◌++◌, map, flat_map, Option, Some, None, inl, inr, refl, sym, ap, subst, ◌∙◌, arith}
use Rattle.std.specs.Prelude.{◌≢◌, find, slice_get}
use Rattle.std.specs.List.{AllByRecursion as Each}
use Rattle.std.specs.Option.{option_map}
use Rattle.std.proofs.lemmas.Option.{same_Some, slice_get_within}
use Rattle.ap_desc.proofs.OnePort.{each_as}
use Rattle.ap_desc.specs.Chains.{IsNodeOf}
use Rattle.ap_desc.specs.Clean.{IsClean}
use Rattle.ap_desc.specs.declared.design.Design.{Design}
use Rattle.ap_desc.specs.declared.design.Node.{Node as DesignNode}
use Rattle.ap_desc.specs.declared.design.Node.TheVariants as design_node
use Rattle.ap_merge.specs.declared.table.Choice.{Choice}
use Rattle.ap_merge.specs.declared.table.Select.{Select}
use Rattle.ap_net.specs.declared.cell.Wire.{Wire}
use Rattle.ap_net.specs.declared.net.Instance.{Instance}
use Rattle.ap_net.specs.Draft.{Draft, Extends, names_of}
use Rattle.ap_net.specs.Modules.{ModuleText}
use Rattle.ap_net.specs.Names.{AreDistinct, IsNew}
use Rattle.ap_net.specs.Pending.{Among}
use Rattle.ap_net.specs.Ready.{Dependence, numbers}
use Rattle.ap_net.specs.Wiring.{taken_names}
use Rattle.ap_net.proofs.Laws.{Extends-trans, stays}
use Rattle.ap_pipe.specs.declared.table.StageSlots.{StageSlots}
use Rattle.ap_ports.proofs.Added.{one_node}
use Rattle.ap_ports.proofs.Members.{contains_at, each_get, each_of}
use Rattle.ap_ports.specs.Numbers.{number_of_node}
use Rattle.ap_signals.specs.NetRuns.{unit_part}
use Rattle.ap_stage.specs.declared.chain.Node.{Node}
use Rattle.ap_stage.specs.declared.chain.Node.TheVariants as node
use Rattle.ap_stage.specs.declared.node.Course.{Course}
use Rattle.ap_stage.specs.declared.source.Ground.{Ground}
use Rattle.ap_stage.specs.Chained.{IsServedNode}
use Rattle.ap_stage.specs.Reads.{IsNone}
use Rattle.ap_stage.specs.Served.{IsReadyNode, names_placed, stage_names, stage_wires, wires_of}
use Rattle.ap_stage.proofs.Listed.{each_both, each_found, each_left, each_right}
use Rattle.ap_stages.specs.Around.{IsInNone, IsJoined, IsNameOfNone, IsReadySupply, NodesAreDriven, PlacedAreJoined, StagesAreReady, StagesLeaveNames, StagesLeaveNodes, StagesLeaveWires, UnusedAreInNone, UnusedAreUnnamed}
use Rattle.ap_stages.specs.Onward.{IsLeft}
use Rattle.ap_stages.specs.Stages.{AreStaged, all_nodes}
use Rattle.ap_stages.specs.Stood.{AreApartSupplies, wires_with}
use Rattle.ap_stages.specs.Supplies.{IsNodeBy, IsNodeFor, supply_of}
use Rattle.ap_stages.specs.declared.begin.SharedNets.{SharedNets}
use Rattle.ap_stages.specs.declared.begin.StageNets.{StageNets}
use Rattle.ap_stages.specs.declared.nodes.Supplied.{Supplied}
use Rattle.ap_stages.specs.declared.nodes.Supply.{Supply}
use Rattle.ap_stages.specs.declared.nodes.Supply.TheVariants as supply
use Rattle.ap_stages.specs.declared.stage.ServedStage.{ServedStage}
use Rattle.ap_stages.proofs.Begun.{some_at}
use Rattle.ap_stages.proofs.Leaving.{left_by, names_each, node_at, wires_each}
use Rattle.ap_stages.proofs.Making.{node_numbered}
use Rattle.ap_stages.proofs.Names.{mapped_at, units_named_once}
use Rattle.ap_stages.proofs.Onward.{others}
use Rattle.ap_stages.proofs.Standing.{IsPartName, names_are, wires_are}
use Rattle.ap_stages.proofs.Together.{wires_both}

-- Ports of all stages. -----------------------------------------------------------------------------------------------------

each_flat : {X Y : Type 0} (P : Y → Type 0) (f : X → List Y) (xs : List X) → ((k : ℕ) (x : X) → slice_get xs k ≡ Some x → Each P (f x)) → Each P (flat_map f xs)
each_flat P f [] h = tt
each_flat P f (x ∷ xs) h = each_both P (f x) (flat_map f xs) (h 0 x refl) (each_flat P f xs (λ k y at. h (suc k) y at))

-- what holds of each port of each stage
each_port : (P : Node → Type 0) (stages : List ServedStage) → ((k : ℕ) (s : ServedStage) → slice_get stages k ≡ Some s → (j : ℕ) (n : Node) → slice_get s.nodes.items j ≡ Some n → P n) → Each P (all_nodes stages)
each_port P stages h = each_flat P (λ (s : ServedStage). s.nodes.items) stages (λ k s at. each_of P s.nodes.items (λ j n there. h k s at j n there))

-- what holds of a stage's wires holds of each port's; so it is with names
in_node : (P : Wire → Type 0) (nodes : List Node) → Each P (stage_wires nodes) → (j : ℕ) (n : Node) → slice_get nodes j ≡ Some n → Each P (wires_of n)
in_node P [] h j n at = absurd cc
in_node P (m ∷ nodes) h zero n at = subst (λ z. Each P (wires_of z)) (same_Some m n at) (each_left P (wires_of m) (stage_wires nodes) h)
in_node P (m ∷ nodes) h (suc j) n at = in_node P nodes (each_right P (wires_of m) (stage_wires nodes) h) j n at

names_in : (nodes : List Node) (name : List ℕ) → IsNew name (stage_names nodes) → (j : ℕ) (n : Node) → slice_get nodes j ≡ Some n → IsNew name (names_placed n)
names_in [] name h j n at = absurd cc
names_in (m ∷ nodes) name h zero n at = subst (λ z. IsNew name (names_placed z)) (same_Some m n at) (each_left (λ other. other ≢ name) (names_placed m) (stage_names nodes) h)
names_in (m ∷ nodes) name h (suc j) n at = names_in nodes name (each_right (λ other. other ≢ name) (names_placed m) (stage_names nodes) h) j n at

-- what is found is one of those
supplied_of : (P : Supply → Type 0) (supplies : List Supplied) (number : ℕ) (s : Supply) → Each (λ (x : Supplied). P x.supply) supplies → supply_of supplies number ≡ Some s → P s
supplied_of P supplies number s each found = go (find (λ (x : Supplied). x.number == number) supplies) refl found
  where
    go : (o : Option Supplied) → find (λ (x : Supplied). x.number == number) supplies ≡ o → option_map (λ (x : Supplied). x.supply) o ≡ Some s → P s
    go (Some x) is e = subst P (same_Some x.supply s e) (each_found (λ (z : Supplied). P z.supply) (λ (z : Supplied). z.number == number) supplies x is each)
    go None is e = absurd cc

node_ready : (by : Dependence) (d : Draft) (base : List ℕ) (design : Design) (select : Select) (x : DesignNode) (s : Supply) (n : Node) → IsNodeBy design select x s n → IsReadySupply by d base s → IsReadyNode by d base n
node_ready by d base design select (design_node.Unit v) (supply.Quick place bits) n h ready = subst (IsReadyNode by d base) (sym h.3) tt
node_ready by d base design select (design_node.Unit v) (supply.Slow sel a b y) n h ready = subst (IsReadyNode by d base) (sym h) ready
node_ready by d base design select (design_node.FileRead file port) (supply.Read index value) n h ready = subst (IsReadyNode by d base) (sym h) ready
node_ready by d base design select (design_node.MemRead mem) (supply.Read index value) n h ready = subst (IsReadyNode by d base) (sym h) ready
node_ready by d base design select _ _ n h ready = absurd h

module _ (design : Design) (slots : List StageSlots) (choices : List Choice) (supplies : List Supplied) (orders : List (List DesignNode)) (modules : List ModuleText) (shared : SharedNets) (owns : List StageNets) (old new : Draft) (stages : List ServedStage)
    (staged : AreStaged design slots choices supplies orders modules shared owns old new stages) where
  -- the node of a port of a stage, in the order of the stage
  pub port_at : (k : ℕ) (s : ServedStage) → slice_get stages k ≡ Some s → (j : ℕ) (n : Node) → slice_get s.nodes.items j ≡ Some n
      → (order : List DesignNode) × (y : DesignNode) × (slice_get orders k ≡ Some order) × (slice_get order j ≡ Some y) × IsNodeFor design choices supplies y n
  port_at k s at j n there =
      let m = staged.each k s at in
      let (y, y_at, for) = node_at design choices supplies m.order s.nodes.items m.staged.ports j n there in
      (m.order, y, m.has_order, y_at, for)

  -- what holds of each port that a node has
  pub each_node : (P : Node → Type 0) → ((k : ℕ) (order : List DesignNode) (j : ℕ) (y : DesignNode) (n : Node) → slice_get orders k ≡ Some order → slice_get order j ≡ Some y → IsNodeFor design choices supplies y n → P n) → Each P (all_nodes stages)
  each_node P h = each_port P stages (λ k s at j n there. let (order, y, has, y_at, for) = port_at k s at j n there in h k order j y n has y_at for)

  ready : (by : Dependence) (base : List ℕ) → Each (λ (s : Supplied). IsReadySupply by old base s.supply) supplies → Each (IsReadyNode by old base) (all_nodes stages)
  ready by base each = each_node (IsReadyNode by old base) (λ k order j y n has y_at for.
      node_ready by old base design for.select y for.supply n for.made (supplied_of (IsReadySupply by old base) supplies (number_of_node y) for.supply each for.found))

  no_wires : (w : Wire) → Each (λ (s : Supplied). IsNone (wires_with s.supply) w) supplies → IsNone (stage_wires (all_nodes stages)) w
  no_wires w each = wires_each (λ (z : Wire). z.number ≢ w.number) (all_nodes stages) (λ i n at.
      each_get (λ m. IsNone (wires_of m) w) (all_nodes stages) i n (each_node (λ m. IsNone (wires_of m) w) (λ k order j y m has y_at for.
      subst (λ ws. IsNone ws w) (sym (wires_are design for.select y for.supply m for.made)) (supplied_of (λ s. IsNone (wires_with s) w) supplies (number_of_node y) for.supply each for.found))) at)

  no_names : (name : List ℕ) → IsNameOfNone design orders name → IsNew name (stage_names (all_nodes stages))
  no_names name free = names_each (λ other. other ≢ name) (all_nodes stages) (λ i n at.
      each_get (λ m. Each (λ other. other ≢ name) (names_placed m)) (all_nodes stages) i n (each_node (λ m. Each (λ other. other ≢ name) (names_placed m)) (λ k order j y m has y_at for.
      each_as (IsPartName design (number_of_node y)) (λ other. other ≢ name) (λ other part same. free (number_of_node y) part.unit part.at (sym part.is ∙ same) k order j y has y_at refl)
      (names_placed m) (names_are design for.select y for.supply m for.made))) at)

  module _ (clean : IsClean design) (apart : AreApartSupplies supplies) (x : DesignNode) (s : Supply) (found : supply_of supplies (number_of_node x) ≡ Some s) (nowhere : IsInNone orders x) where
    left_of : (k : ℕ) (z : ServedStage) → slice_get stages k ≡ Some z → IsLeft design z.nodes.items x s
    left_of k z at =
        let m = staged.each k z at in
        left_by design choices supplies m.order z.nodes.items m.staged.ports clean apart x s found (λ j y there. nowhere k m.order j y m.has_order there)

    left_in : IsLeft design (all_nodes stages) x s
    left_in = record {
      wires = each_of (IsNone (stage_wires (all_nodes stages))) (wires_with s) (λ i w at. wires_each (λ (z : Wire). z.number ≢ w.number) (all_nodes stages) (λ l n there.
          each_get (λ m. IsNone (wires_of m) w) (all_nodes stages) l n (each_port (λ m. IsNone (wires_of m) w) stages (λ k z has j m m_at. in_node (λ (v : Wire). v.number ≢ w.number) z.nodes.items (each_get (IsNone (stage_wires z.nodes.items)) (wires_with s) i w (left_of k z has).wires at) j m m_at)) there));
      names = λ v u is u_at. names_each (λ name. name ≢ unit_part u) (all_nodes stages) (λ l n there.
          each_get (λ m. Each (λ name. name ≢ unit_part u) (names_placed m)) (all_nodes stages) l n (each_port (λ m. Each (λ name. name ≢ unit_part u) (names_placed m)) stages (λ k z has j m m_at. names_in z.nodes.items (unit_part u) ((left_of k z has).names v u is u_at) j m m_at)) there);
    }

pub stages_are_ready : StagesAreReady
stages_are_ready design slots choices supplies orders modules shared owns old new stages staged by base nets given = staged.follows by base nets (ready design slots choices supplies orders modules shared owns old new stages staged by base given)

pub stages_leave_wires : StagesLeaveWires
stages_leave_wires design slots choices supplies orders modules shared owns old new stages staged w each late = staged.serves.serves.late w late (no_wires design slots choices supplies orders modules shared owns old new stages staged w each)

pub stages_leave_names : StagesLeaveNames
stages_leave_names design slots choices supplies orders modules shared owns old new stages staged name other nowhere free =
    staged.serves.serves.names name other (subst (IsNew name) (sym staged.serves.named) (no_names design slots choices supplies orders modules shared owns old new stages staged name nowhere)) free

pub stages_leave_nodes : StagesLeaveNodes
stages_leave_nodes design slots choices supplies orders modules shared owns old new stages staged clean apart cards x s found nowhere h =
    others design cards old new modules (all_nodes stages) x s staged.serves (left_in design slots choices supplies orders modules shared owns old new stages staged clean apart x s found nowhere) h

pub unused : UnusedAreInNone
unused design cards orders x fits are numbered none k order j y at there same =
    let is_node : IsNodeOf design (k + 1) y = ((are.each k order at).nodes y).0 (contains_at order j y there) in
    none (k + 1) (subst (IsNodeOf design (k + 1)) (one_node y x (node_numbered design cards (k + 1) y fits is_node) numbered same) is_node)

pub unnamed : UnusedAreUnnamed
unnamed design orders v u clean at nowhere w q q_at same = subst (λ n. IsInNone orders (design_node.Unit n)) (units_named_once design clean v w u q at q_at (sym same)) nowhere

-- What is driven. ----------------------------------------------------------------------------------------------------------

each_own : (wires : List Wire) → Each (λ (w : Wire). Among (numbers wires) w.number) wires
each_own [] = tt
each_own (w ∷ wires) = (inl refl, each_as (λ (v : Wire). Among (numbers wires) v.number) (λ (v : Wire). Among (numbers (w ∷ wires)) v.number) (λ v h. inr h) wires (each_own wires))

in_stage : (P : Wire → Type 0) (stages : List ServedStage) → Each P (stage_wires (all_nodes stages)) → (k : ℕ) (s : ServedStage) → slice_get stages k ≡ Some s → Each P (stage_wires s.nodes.items)
in_stage P [] h k s at = absurd cc
in_stage P (x ∷ stages) h zero s at =
    subst (λ (z : ServedStage). Each P (stage_wires z.nodes.items)) (same_Some x s at)
    (each_left P (stage_wires x.nodes.items) (stage_wires (all_nodes stages)) (subst (Each P) (wires_both x.nodes.items (all_nodes stages)) h))
in_stage P (x ∷ stages) h (suc k) s at = in_stage P stages (each_right P (stage_wires x.nodes.items) (stage_wires (all_nodes stages)) (subst (Each P) (wires_both x.nodes.items (all_nodes stages)) h)) k s at

pub nodes_are_driven : NodesAreDriven
nodes_are_driven design slots choices supplies orders modules shared owns old new stages staged long k order j x s at there found =
    let low = slice_get_within orders k order at in
    let (z, z_at) = some_at stages k (omega (arith, low, long)) in
    let m = staged.each k z z_at in
    let same : m.order ≡ order = same_Some m.order order (sym m.has_order ∙ at) in
    let x_at : slice_get m.order j ≡ Some x = ap (λ o. slice_get o j) same ∙ there in
    let inside = slice_get_within m.order j x x_at in
    let many = m.staged.ports.long in
    let (n, n_at) = some_at z.nodes.items j (omega (arith, inside, many)) in
    let for = m.staged.ports.each j x n x_at n_at in
    let is : for.supply ≡ s = same_Some for.supply s (sym for.found ∙ found) in
    let all = stage_wires (all_nodes stages) in
    let own = in_node (λ (w : Wire). Among (numbers all) w.number) z.nodes.items (in_stage (λ (w : Wire). Among (numbers all) w.number) stages (each_own all) k z z_at) j n n_at in
    subst (λ (t : Supply). Each (λ (w : Wire). Among (numbers all) w.number) (wires_with t)) is (subst (Each (λ (w : Wire). Among (numbers all) w.number)) (wires_are design for.select x for.supply n for.made) own)

-- The instances that were placed. ------------------------------------------------------------------------------------------

-- an instance of this name stands in the draft, and connects one of the modules
record HasInstance (d : Draft) (modules : List ModuleText) (name : List ℕ) : Type 0 where
  place : ℕ
  of : Instance
  at : slice_get d.instances place ≡ Some of
  named : of.name ≡ name
  joined : IsJoined modules of

right_at : {X : Type 0} (xs ys : List X) (j : ℕ) (y : X) → slice_get ys j ≡ Some y → (k : ℕ) × (slice_get (xs ++ ys) k ≡ Some y)
right_at [] ys j y at = (j, at)
right_at (x ∷ xs) ys j y at = let (k, there) = right_at xs ys j y at in (suc k, there)

one_place : (names : List (List ℕ)) → AreDistinct names → (i j : ℕ) (a : List ℕ) → slice_get names i ≡ Some a → slice_get names j ≡ Some a → i ≡ j
one_place [] h i j a at there = absurd cc
one_place (x ∷ names) h zero zero a at there = refl
one_place (x ∷ names) h zero (suc j) a at there = absurd (each_get (λ other. other ≢ x) names j a h.0 there (sym (same_Some x a at)))
one_place (x ∷ names) h (suc i) zero a at there = absurd (each_get (λ other. other ≢ x) names i a h.0 at (sym (same_Some x a there)))
one_place (x ∷ names) h (suc i) (suc j) a at there = ap suc (one_place names h.1 i j a at there)

name_at : (d : Draft) (k : ℕ) (i : Instance) → slice_get d.instances k ≡ Some i → slice_get (names_of d) k ≡ Some i.name
name_at d k i at = stays (map (λ (x : Instance). x.name) d.instances) (names_of d) (taken_names d.nets, refl) k i.name (mapped_at (λ (x : Instance). x.name) d.instances k i at)

node_names : (a b : Draft) (ground : Ground) (modules : List ModuleText) (courses : List Course) → Extends a b → (n : Node) → IsServedNode a ground modules courses n → Each (HasInstance b modules) (names_placed n)
node_names a b ground modules courses e (node.Quick u) h =
    (record { place = h.k; of = h.of; at = stays a.instances b.instances e.instances h.k h.of h.placed; named = h.is_unit.named; joined = (u.module, h.m, h.is_module, h.is_unit.connects) }, tt)
node_names a b ground modules courses e (node.Slow u) h = tt
node_names a b ground modules courses e (node.Read p) h = tt

pub placed_are_joined : PlacedAreJoined
placed_are_joined design slots choices supplies orders modules shared owns old new later stages staged onward kept = each_of (IsJoined modules) staged.serves.placed (λ j i at. joined j i at)
  where
    named : (k : ℕ) (s : ServedStage) → slice_get stages k ≡ Some s → (j : ℕ) (n : Node) → slice_get s.nodes.items j ≡ Some n → Each (HasInstance later modules) (names_placed n)
    named k s at j n there =
        let m = staged.each k s at in
        node_names m.after later s.ground modules s.courses.items (Extends-trans m.after new later m.ends.extends onward) n
        (each_get (IsServedNode m.after s.ground modules s.courses.items) s.nodes.items j n m.staged.all.served there)

    all_named : Each (HasInstance later modules) (stage_names (all_nodes stages))
    all_named = names_each (HasInstance later modules) (all_nodes stages) (λ l n there.
        each_get (λ m. Each (HasInstance later modules) (names_placed m)) (all_nodes stages) l n (each_port (λ m. Each (HasInstance later modules) (names_placed m)) stages named) there)

    joined : (j : ℕ) (i : Instance) → slice_get staged.serves.placed j ≡ Some i → IsJoined modules i
    joined j i at =
        let name_there : slice_get (stage_names (all_nodes stages)) j ≡ Some i.name =
        ap (λ l. slice_get l j) (sym staged.serves.named) ∙ mapped_at (λ (x : Instance). x.name) staged.serves.placed j i at in
        let h = each_get (HasInstance later modules) (stage_names (all_nodes stages)) j i.name all_named name_there in
        let (k, k_at) = right_at old.instances staged.serves.placed j i at in
        let own : slice_get later.instances k ≡ Some i = stays new.instances later.instances onward.instances k i (ap (λ l. slice_get l k) staged.serves.serves.instances ∙ k_at) in
        let same : k ≡ h.place = one_place (names_of later) kept.connected.distinct k h.place i.name (name_at later k i own) (name_at later h.place h.of h.at ∙ ap Some h.named) in
        let is : h.of ≡ i = same_Some h.of i (sym h.at ∙ sym (ap (slice_get later.instances) same) ∙ own) in
        subst (IsJoined modules) is h.joined
