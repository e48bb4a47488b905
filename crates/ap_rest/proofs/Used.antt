-- Lines that use the port of a node, and the node's stage.
use Rattle.std.proofs.Common.{◌≡◌, ℕ, ◌-◌, ◌≤◌, true, false, Some, refl, sym, ap, subst, ◌∙◌, arith}
use Rattle.std.specs.Prelude.{◌==◌, ◌&&◌}
use Rattle.std.proofs.lemmas.Bool.{and_parts, eqb-true}
use Rattle.std.proofs.lemmas.Option.{same_Some}
use Rattle.ap_desc.specs.Chains.{IsNodeOf, node_of}
use Rattle.ap_desc.specs.Clean.{IsClean}
use Rattle.ap_desc.specs.Ports.{micros_in}
use Rattle.ap_desc.specs.PortsApart.{PortsApart, uses_port}
use Rattle.ap_desc.specs.declared.design.Act.{Act}
use Rattle.ap_desc.specs.declared.design.Act.TheVariants as act
use Rattle.ap_desc.specs.declared.design.Design.{Design}
use Rattle.ap_desc.specs.declared.design.Micro.{Micro}
use Rattle.ap_desc.specs.declared.design.Node.{Node}
use Rattle.ap_desc.specs.declared.design.Node.TheVariants as node
use Rattle.ap_desc.proofs.Members.{any_in, in_any, in_contains, contains_in}
use Rattle.ap_ports.proofs.Added.{low_from}
use Rattle.ap_ports.proofs.Conditions.{numbered_at}
use Rattle.ap_ports.proofs.Members.{any_at, at_any, contains_at, each_get, place_of}
use Rattle.ap_ports.specs.Numbers.{IsNumberedNode}
use Rattle.ap_course.specs.Choices.{port_of_node}
use Rattle.ap_rest.specs.Uses.{is_port_used}
use Rattle.ap_rest.specs.Serving.{UnusedAreNone, UsedAreNodes}

-- a line that uses the port of a node uses the node, and back
node_used : (x : Node) (a : Act) → uses_port (port_of_node x) a ≡ true → node_of a ≡ Some x
node_used (node.Unit u) (act.Compute other op a b) e = let same : u ≡ other = eqb-true u other e in ap (λ n. Some (node.Unit n)) (sym same)
node_used (node.FileRead file port) (act.ReadFile other number index) e =
    let both = and_parts (file == other) (port == number) e in
    ap (λ n. Some (node.FileRead n number)) (sym (eqb-true file other both.0)) ∙ ap (λ n. Some (node.FileRead file n)) (sym (eqb-true port number both.1))
node_used (node.MemRead mem) (act.ReadMem other at) e = ap (λ n. Some (node.MemRead n)) (sym (eqb-true mem other e))
node_used _ _ e = absurd cc

is_same : (n : ℕ) → (n == n) ≡ true
is_same n = grind arith

uses_own : (x : Node) (a : Act) → node_of a ≡ Some x → uses_port (port_of_node x) a ≡ true
uses_own x a e = go a e
  where
    go : (b : Act) → node_of b ≡ Some x → uses_port (port_of_node x) b ≡ true
    go (act.Compute unit op l r) h = subst (λ y. uses_port (port_of_node y) (act.Compute unit op l r) ≡ true) (same_Some (node.Unit unit) x h) (is_same unit)
    go (act.ReadFile file port index) h = subst (λ y. uses_port (port_of_node y) (act.ReadFile file port index) ≡ true) (same_Some (node.FileRead file port) x h)
        (ap (λ b. b && (port == port)) (is_same file) ∙ is_same port)
    go (act.ReadMem mem at) h = subst (λ y. uses_port (port_of_node y) (act.ReadMem mem at) ≡ true) (same_Some (node.MemRead mem) x h) (is_same mem)
    go _ h = absurd cc

pub used_are_nodes : ((design : Design) → IsClean design → PortsApart design) → UsedAreNodes
used_are_nodes apart design x clean used =
    let (k, m, at, uses) = any_at (λ (m : Micro). uses_port (port_of_node x) m.act) (micros_in design) used in
    let stands = each_get (λ (m : Micro). (1 ≤ m.stage) × (m.stage ≤ design.stages - 1)) (micros_in design) k m (apart design clean).in_stages at in
    (m.stage, stands.0, stands.1, in_any (λ (n : Micro). (n.stage ≡ m.stage) × (node_of n.act ≡ Some x)) (micros_in design) m (contains_in (micros_in design) m (contains_at (micros_in design) k m at)) (refl, node_used x m.act uses))

pub unused_are_none : UnusedAreNone
unused_are_none design x stage unused is_node =
    let (m, there, is) = any_in (λ (m : Micro). (m.stage ≡ stage) × (node_of m.act ≡ Some x)) (micros_in design) is_node in
    let (k, at) = place_of (micros_in design) m (in_contains (micros_in design) m there) in
    let used : is_port_used design (port_of_node x) ≡ true = at_any (λ (n : Micro). uses_port (port_of_node x) n.act) (micros_in design) k m at (uses_own x m.act is.1) in
    let clash : true ≡ false = sym used ∙ unused in
    cc

-- the number of a node of a stage tells it from others
pub node_numbered : (design : Design) (stage : ℕ) (x : Node) → IsClean design → IsNodeOf design stage x → IsNumberedNode x
node_numbered design stage x clean is_node =
    let (m, there, is) = any_in (λ (m : Micro). (m.stage ≡ stage) × (node_of m.act ≡ Some x)) (micros_in design) is_node in
    let (k, at) = place_of (micros_in design) m (in_contains (micros_in design) m there) in
    low_from m.act x (numbered_at design clean.sound k m at) is.1
