-- The ports of a stage, over the instructions at their beginning.
use Rattle.std.proofs.Common.{◌≡◌, ◌≢◌, ℕ, zero, suc, ◌<◌, List, [], ◌∷◌, length, Some, refl, sym, subst, ◌∙◌, arith}
use Rattle.std.specs.Prelude.{slice_get}
use Rattle.std.specs.List.{AllByRecursion as Each}
use Rattle.std.proofs.lemmas.Option.{same_Some, slice_get_within}
use Rattle.ap_desc.proofs.Members.{each_contained}
use Rattle.ap_desc.specs.Chains.{IsChainOrder, IsNodeOf}
use Rattle.ap_desc.specs.declared.design.Design.{Design}
use Rattle.ap_desc.specs.declared.design.Instr.{Instr}
use Rattle.ap_desc.specs.declared.design.Node.{Node as DesignNode}
use Rattle.ap_merge.specs.Choices.{IsChoice}
use Rattle.ap_merge.specs.Selects.{GoesOver}
use Rattle.ap_merge.specs.declared.table.Choice.{Choice}
use Rattle.ap_merge.specs.declared.table.Select.{Select}
use Rattle.ap_net.specs.declared.cell.Wire.{Wire}
use Rattle.ap_net.specs.Draft.{Draft}
use Rattle.ap_net.specs.Late.{StayLate}
use Rattle.ap_net.specs.Making.{Makes}
use Rattle.ap_net.specs.Modules.{ModuleText}
use Rattle.ap_pipe.specs.declared.table.StageSlots.{StageSlots}
use Rattle.ap_ports.proofs.Members.{contains_at, each_get, each_of}
use Rattle.ap_ports.specs.Numbers.{number_of_node}
use Rattle.ap_stage.specs.declared.chain.Node.{Node}
use Rattle.ap_stage.specs.declared.node.Course.{Course}
use Rattle.ap_stage.specs.declared.source.Ground.{Ground}
use Rattle.ap_stage.specs.Chained.{AreApart, AreNodes, IsWhole, UsesOnly}
use Rattle.ap_stage.specs.Courses.{IsCourse, IsUnserved, users_of}
use Rattle.ap_stage.specs.Served.{IsServable, names_placed, port_of, wires_of}
use Rattle.ap_course.specs.Instrs.{AreCoursesOf, AreNodesOf, AreOrdered, IsGroundOf}
use Rattle.ap_course.specs.Starts.{AreStarted, IsStarted}
use Rattle.ap_course.proofs.Choosing.{over_users}
use Rattle.ap_course.proofs.Ordered.{are_ordered}
use Rattle.ap_stages.specs.Staged.{AreChoicesOf}
use Rattle.ap_stages.specs.Stood.{AreApartSupplies, AreStanding, HasStanding, Stands, wires_with}
use Rattle.ap_stages.specs.Supplies.{AreNodesFor, IsNodeFor, IsSelectionOf}
use Rattle.ap_stages.specs.declared.begin.StageNets.{StageNets}
use Rattle.ap_stages.specs.declared.nodes.Supplied.{Supplied}
use Rattle.ap_stages.proofs.Names.{units_named_once}
use Rattle.ap_stages.proofs.Standing.{IsPartName, can_be_node, names_are, port_is, stands_on, wires_are}

pub some_at : {X : Type 0} (xs : List X) (j : ℕ) → j < length xs → (x : X) × (slice_get xs j ≡ Some x)
some_at [] j low = absurd (omega arith)
some_at (x ∷ xs) zero low = (x, refl)
some_at (x ∷ xs) (suc j) low = some_at xs j (omega arith)

-- the instruction at a place, with its condition
pub record StartsAt (design : Design) (stage : ℕ) (table : StageSlots) (own : StageNets) (a b : Draft) (ground : Ground) (k : ℕ) (c : Course) : Type 0 where
  pub instr : Instr
  pub at : slice_get design.instrs k ≡ Some instr
  pub cond : Wire
  pub has : slice_get own.conds k ≡ Some cond
  pub starts : IsStarted design stage k instr ground table.homes own.slots a b cond c

module _ (design : Design) (stage : ℕ) (table : StageSlots) (own : StageNets) (a b : Draft) (ground : Ground) (courses : List Course) (many : length own.conds ≡ length design.instrs)
    (started : AreStarted design stage ground table.homes own.slots own.conds a b courses) where
  pub starts_at : (k : ℕ) (c : Course) → slice_get courses k ≡ Some c → StartsAt design stage table own a b ground k c
  starts_at k c at =
      let low = slice_get_within courses k c at in
      let long = started.long in
      let instr = some_at design.instrs k (omega (arith, low, long)) in
      let cond = some_at own.conds k (omega (arith, low, long, many)) in
      record { instr = instr.0; at = instr.1; cond = cond.0; has = cond.1; starts = started.each k c at instr.0 cond.0 instr.1 cond.1 }

  pub courses_of : AreCoursesOf design stage courses
  courses_of k c at = let h = starts_at k c at in (h.instr, h.at, h.starts.of)

  pub all_courses : Each (IsCourse b ground) courses
  all_courses = each_of (IsCourse b ground) courses (λ k c at. (starts_at k c at).starts.course)

  pub all_whole : Each IsWhole courses
  all_whole = each_of IsWhole courses (λ k c at. (starts_at k c at).starts.whole)

  all_unserved : (port : ℕ) → Each (IsUnserved port) courses
  all_unserved port = each_of (IsUnserved port) courses (λ k c at. (starts_at k c at).starts.unserved port)

  module _ (d : Draft) (modules : List ModuleText) (choices : List Choice) (supplies : List Supplied) (order : List DesignNode) (nodes : List Node) (of_ground : IsGroundOf design ground) (are : AreChoicesOf design choices) (chain : IsChainOrder design stage order)
      (stand : AreStanding design d modules supplies order) (apart : AreApartSupplies supplies) (ports : AreNodesFor design choices supplies order nodes) (makes : Makes d b) (late : StayLate d b) where
    is_node_of : (k : ℕ) (x : DesignNode) → slice_get order k ≡ Some x → IsNodeOf design stage x
    is_node_of k x at = (chain.nodes x).0 (contains_at order k x at)

    -- the node at a port's place
    at_port : (k : ℕ) (n : Node) → slice_get nodes k ≡ Some n → (x : DesignNode) × (slice_get order k ≡ Some x) × IsNodeFor design choices supplies x n
    at_port k n there =
        let low = slice_get_within nodes k n there in
        let long = ports.long in
        let (x, at) = some_at order k (omega (arith, low, long)) in
        (x, at, ports.each k x n at there)

    nodes_of : AreNodesOf order nodes
    nodes_of = record { long = ports.long; numbers_are = λ j x n at there. (let h = ports.each j x n at there in port_is design h.select x h.supply n h.made) }

    ordered : AreOrdered courses nodes
    ordered = are_ordered design stand.cards stage courses order nodes stand.fits courses_of chain nodes_of

    pub only : Each (UsesOnly nodes) courses
    only = ordered.only

    servable : (x : DesignNode) (select : Select) → IsNodeOf design stage x → IsSelectionOf choices x select → IsServable courses (number_of_node x) select
    servable x select is_node h = record {
      over = subst (λ s. GoesOver s 0 (length (users_of (number_of_node x) courses))) (sym h.is)
          (over_users design stand.cards are.paths h.choice stage x courses stand.fits are.of (each_contained (IsChoice are.paths.uses) choices h.choice are.are.each h.there) h.first is_node started.long courses_of);
      unserved = all_unserved (number_of_node x);
    }

    pub are_nodes : AreNodes b ground courses nodes modules 0
    are_nodes place n low there =
        let (x, at, for) = at_port place n there in
        let is_node = is_node_of place x at in
        let has = each_get (HasStanding design stand.cards d modules supplies) order place x stand.each at in
        let same : has.supply ≡ for.supply = same_Some has.supply for.supply (sym has.found ∙ for.found) in
        let stands = subst (Stands design stand.cards b modules x) same (stands_on design stand.cards d b modules x has.supply makes late has.stands) in (
          can_be_node design stand.cards stage b modules ground courses stand.fits of_ground courses_of for.select x for.supply n is_node (servable x for.select is_node for.selected) stands for.made,
          ordered.take place n there,
        )

    names_apart : (x y : DesignNode) (one other : Node) → IsNodeFor design choices supplies x one → IsNodeFor design choices supplies y other → number_of_node x ≢ number_of_node y → Each (λ name. Each (λ before. before ≢ name) (names_placed other)) (names_placed one)
    names_apart x y one other for of unlike =
        each_of (λ name. Each (λ before. before ≢ name) (names_placed other)) (names_placed one) (λ i name at.
        each_of (λ before. before ≢ name) (names_placed other) (λ j before there same.
        let first = each_get (IsPartName design (number_of_node x)) (names_placed one) i name (names_are design for.select x for.supply one for.made) at in
        let second = each_get (IsPartName design (number_of_node y)) (names_placed other) j before (names_are design of.select y of.supply other of.made) there in
        unlike (units_named_once design stand.fits.clean (number_of_node x) (number_of_node y) first.unit second.unit first.at second.at (sym first.is ∙ sym same ∙ second.is))))

    pub are_apart : AreApart nodes
    are_apart j k one other at there unlike =
        let (x, x_at, for) = at_port j one at in
        let (y, y_at, of) = at_port k other there in
        let ports_differ : port_of one ≢ port_of other = λ same. unlike (ordered.apart j k one other at there same) in
        let numbers_differ : number_of_node x ≢ number_of_node y = λ same. ports_differ (port_is design for.select x for.supply one for.made ∙ same ∙ sym (port_is design of.select y of.supply other of.made)) in
        record {
          port = ports_differ;
          wires = subst (λ ws. Each (λ (w : Wire). Each (λ (x : Wire). x.number ≢ w.number) (wires_of other)) ws) (sym (wires_are design for.select x for.supply one for.made))
              (subst (λ ws. Each (λ (w : Wire). Each (λ (x : Wire). x.number ≢ w.number) ws) (wires_with for.supply)) (sym (wires_are design of.select y of.supply other of.made))
              (apart (number_of_node x) (number_of_node y) for.supply of.supply for.found of.found numbers_differ));
          names = names_apart x y one other for of numbers_differ;
        }
