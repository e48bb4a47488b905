-- A stage leaves the nodes of others as they stand: no node is in two stages, and no wire and no name is that of two nodes.
use Rattle.std.proofs.Common.{◌≡◌, ℕ, suc, ◌==◌, ◌&&◌, Bool, true, false, List, [], ◌∷◌, Some, refl, sym, ap, subst, ◌∙◌, arith}
use Rattle.std.specs.Prelude.{◌≢◌, slice_get}
use Rattle.std.specs.List.{AllByRecursion as Each}
use Rattle.std.proofs.lemmas.Option.{same_Some, slice_get_within}
use Rattle.ap_bits.specs.declared.card.Card.{Card}
use Rattle.ap_desc.proofs.Members.{any_in, in_contains}
use Rattle.ap_desc.proofs.OnePort.{clean_apart, each_as}
use Rattle.ap_desc.specs.Chains.{IsChainOrder, IsNodeOf, node_of}
use Rattle.ap_desc.specs.Clean.{FitsCards, IsClean}
use Rattle.ap_desc.specs.Ports.{micros_in}
use Rattle.ap_desc.specs.PortsApart.{is_port_used_in, uses_port}
use Rattle.ap_desc.specs.declared.design.Act.{Act}
use Rattle.ap_desc.specs.declared.design.Act.TheVariants as act
use Rattle.ap_desc.specs.declared.design.Design.{Design}
use Rattle.ap_desc.specs.declared.design.Micro.{Micro}
use Rattle.ap_desc.specs.declared.design.Node.{Node as DesignNode}
use Rattle.ap_desc.specs.declared.design.Node.TheVariants as design_node
use Rattle.ap_desc.specs.declared.design.Unit.{Unit as Resource}
use Rattle.ap_course.specs.Choices.{port_of_node}
use Rattle.ap_merge.specs.declared.table.Choice.{Choice}
use Rattle.ap_net.specs.declared.cell.Wire.{Wire}
use Rattle.ap_net.specs.Draft.{Draft}
use Rattle.ap_net.specs.Modules.{ModuleText}
use Rattle.ap_ports.proofs.Added.{one_node}
use Rattle.ap_ports.proofs.Members.{at_any, contains_at, each_get, each_of, place_of}
use Rattle.ap_ports.specs.Numbers.{number_of_node}
use Rattle.ap_signals.specs.NetRuns.{unit_part}
use Rattle.ap_stage.specs.declared.chain.Node.{Node}
use Rattle.ap_stage.specs.Reads.{IsNone}
use Rattle.ap_stage.specs.Served.{ServesNodes, names_placed, stage_names, stage_wires, wires_of}
use Rattle.ap_stage.proofs.Listed.{each_both}
use Rattle.ap_stages.specs.Onward.{IsLeft}
use Rattle.ap_stages.specs.Stood.{AreApartSupplies, AreStanding, HasStanding, wires_with}
use Rattle.ap_stages.specs.Supplies.{AreNodesFor, IsNodeFor, supply_of}
use Rattle.ap_stages.specs.declared.nodes.Supplied.{Supplied}
use Rattle.ap_stages.specs.declared.nodes.Supply.{Supply}
use Rattle.ap_stages.proofs.Begun.{some_at}
use Rattle.ap_stages.proofs.Making.{node_numbered}
use Rattle.ap_stages.proofs.Names.{units_named_once}
use Rattle.ap_stages.proofs.Onward.{others}
use Rattle.ap_stages.proofs.Standing.{IsPartName, names_are, wires_are}

-- A node is in one stage. --------------------------------------------------------------------------------------------------

both_true : (a b : Bool) → a ≡ true → b ≡ true → (a && b) ≡ true
both_true true b p q = q
both_true false b p q = cc

is_same : (n : ℕ) → (n == n) ≡ true
is_same n = grind arith

own_port : (x : DesignNode) (a : Act) → node_of a ≡ Some x → uses_port (port_of_node x) a ≡ true
own_port x (act.Compute unit op a b) e = subst (λ y. uses_port (port_of_node y) (act.Compute unit op a b) ≡ true) (same_Some _ x e) (is_same unit)
own_port x (act.ReadFile file port index) e = subst (λ y. uses_port (port_of_node y) (act.ReadFile file port index) ≡ true) (same_Some _ x e) (both_true (file == file) (port == port) (is_same file) (is_same port))
own_port x (act.ReadMem mem at) e = subst (λ y. uses_port (port_of_node y) (act.ReadMem mem at) ≡ true) (same_Some _ x e) (is_same mem)
own_port x _ e = cc

port_used : (design : Design) (stage : ℕ) (x : DesignNode) → IsNodeOf design stage x → is_port_used_in design stage (port_of_node x) ≡ true
port_used design stage x is_node =
    let (m, m_in, is) = any_in (λ (m : Micro). (m.stage ≡ stage) × (node_of m.act ≡ Some x)) (micros_in design) is_node in
    let (place, has) = place_of (micros_in design) m (in_contains (micros_in design) m m_in) in
    at_any (λ (m : Micro). (m.stage == stage) && uses_port (port_of_node x) m.act) (micros_in design) place m has
    (both_true (m.stage == stage) (uses_port (port_of_node x) m.act) (subst (λ s. (m.stage == s) ≡ true) is.0 (is_same m.stage)) (own_port x m.act is.1))

pub one_stage : (design : Design) → IsClean design → (s t : ℕ) (x : DesignNode) → IsNodeOf design s x → IsNodeOf design t x → s ≡ t
one_stage design clean s t x here there = (clean_apart design clean).one_stage (port_of_node x) s t (port_used design s x here) (port_used design t x there)

-- so the numbers of nodes of two stages differ
pub numbers_unlike : (design : Design) (cards : List Card) (s t : ℕ) (x y : DesignNode) → FitsCards design cards → IsNodeOf design s x → IsNodeOf design t y → s ≢ t → number_of_node x ≢ number_of_node y
numbers_unlike design cards s t x y fits here there unlike same =
    let is : x ≡ y = one_node x y (node_numbered design cards s x fits here) (node_numbered design cards t y fits there) same in
    unlike (one_stage design fits.clean s t x here (subst (IsNodeOf design t) (sym is) there))

-- What ports leave. --------------------------------------------------------------------------------------------------------

pub wires_each : (P : Wire → Type 0) (nodes : List Node) → ((k : ℕ) (n : Node) → slice_get nodes k ≡ Some n → Each P (wires_of n)) → Each P (stage_wires nodes)
wires_each P [] h = tt
wires_each P (n ∷ nodes) h = each_both P (wires_of n) (stage_wires nodes) (h 0 n refl) (wires_each P nodes (λ k m at. h (suc k) m at))

pub names_each : (P : List ℕ → Type 0) (nodes : List Node) → ((k : ℕ) (n : Node) → slice_get nodes k ≡ Some n → Each P (names_placed n)) → Each P (stage_names nodes)
names_each P [] h = tt
names_each P (n ∷ nodes) h = each_both P (names_placed n) (stage_names nodes) (h 0 n refl) (names_each P nodes (λ k m at. h (suc k) m at))

module _ (design : Design) (choices : List Choice) (supplies : List Supplied) (order : List DesignNode) (nodes : List Node) (ports : AreNodesFor design choices supplies order nodes) where
  -- the node of a port
  pub node_at : (k : ℕ) (n : Node) → slice_get nodes k ≡ Some n → (y : DesignNode) × (slice_get order k ≡ Some y) × IsNodeFor design choices supplies y n
  node_at k n there =
      let low = slice_get_within nodes k n there in
      let long = ports.long in
      let (y, at) = some_at order k (omega (arith, low, long)) in
      (y, at, ports.each k y n at there)

  module _ (clean : IsClean design) (apart : AreApartSupplies supplies) (x : DesignNode) (s : Supply) (found : supply_of supplies (number_of_node x) ≡ Some s) (unlike : (k : ℕ) (y : DesignNode) → slice_get order k ≡ Some y → number_of_node y ≢ number_of_node x) where
    no_wire : (i : ℕ) (w : Wire) → slice_get (wires_with s) i ≡ Some w → (k : ℕ) (n : Node) → slice_get nodes k ≡ Some n → Each (λ (z : Wire). z.number ≢ w.number) (wires_of n)
    no_wire i w at k n there =
        let (y, y_at, for) = node_at k n there in
        let differ : number_of_node x ≢ number_of_node y = λ e. unlike k y y_at (sym e) in
        subst (Each (λ (z : Wire). z.number ≢ w.number)) (sym (wires_are design for.select y for.supply n for.made))
        (each_get (λ (v : Wire). Each (λ (z : Wire). z.number ≢ v.number) (wires_with for.supply)) (wires_with s) i w (apart (number_of_node x) (number_of_node y) s for.supply found for.found differ) at)

    no_name : (v : ℕ) (u : Resource) → x ≡ design_node.Unit v → slice_get design.units v ≡ Some u → (k : ℕ) (n : Node) → slice_get nodes k ≡ Some n → Each (λ name. name ≢ unit_part u) (names_placed n)
    no_name v u is at k n there =
        let (y, y_at, for) = node_at k n there in
        each_as (IsPartName design (number_of_node y)) (λ name. name ≢ unit_part u)
        (λ name part same. unlike k y y_at (units_named_once design clean (number_of_node y) v part.unit u part.at at (sym part.is ∙ same) ∙ sym (ap number_of_node is))) (names_placed n)
        (names_are design for.select y for.supply n for.made)

    pub left_by : IsLeft design nodes x s
    left_by = record {
      wires = each_of (IsNone (stage_wires nodes)) (wires_with s) (λ i w at. wires_each (λ (z : Wire). z.number ≢ w.number) nodes (no_wire i w at));
      names = λ v u is at. names_each (λ name. name ≢ unit_part u) nodes (no_name v u is at);
    }

-- What stands for the nodes of another stage stands on while the ports of a stage are served.
pub stand_on : (design : Design) (choices : List Choice) (a b : Draft) (modules : List ModuleText) (supplies : List Supplied) (s t : ℕ) (order other : List DesignNode) (nodes : List Node) → AreApartSupplies supplies → IsChainOrder design s order → IsChainOrder design t other → s ≢ t
    → AreNodesFor design choices supplies order nodes → ServesNodes nodes a b → AreStanding design a modules supplies other → AreStanding design b modules supplies other
stand_on design choices a b modules supplies s t order other nodes apart chain next unlike ports serves stand = record {
  cards = stand.cards;
  fits = stand.fits;
  each = each_of (HasStanding design stand.cards b modules supplies) other (λ k x at.
      let has = each_get (HasStanding design stand.cards a modules supplies) other k x stand.each at in
      record {
        supply = has.supply;
        found = has.found;
        stands = others design stand.cards a b modules nodes x has.supply serves
            (left_by design choices supplies order nodes ports stand.fits.clean apart x has.supply has.found (λ j y there.
            numbers_unlike design stand.cards s t y x stand.fits ((chain.nodes y).0 (contains_at order j y there)) ((next.nodes x).0 (contains_at other k x at)) unlike))
            has.stands;
      });
}
