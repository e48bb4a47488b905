-- A port can be made of each node of a stage.
use Rattle.std.proofs.Common.{◌≡◌, ℕ, ◌+◌, List, [], ◌∷◌, Some, inl, inr, refl, sym, ap, subst}
use Rattle.std.specs.Prelude.{Any, Contains, IsSomeAnd}
use Rattle.std.specs.List.{AllByRecursion as Each, enumerate_from}
use Rattle.std.proofs.lemmas.Option.{same_Some, slice_get_within}
use Rattle.ap_bits.specs.declared.card.Card.{Card}
use Rattle.ap_desc.proofs.Members.{In, any_in, in_contains, in_flat_map}
use Rattle.ap_desc.specs.Chains.{IsChainOrder, IsNodeOf, node_of}
use Rattle.ap_desc.specs.Clean.{FitsCards}
use Rattle.ap_desc.specs.Ports.{micros_in}
use Rattle.ap_desc.specs.declared.design.Act.{Act}
use Rattle.ap_desc.specs.declared.design.Act.TheVariants as act
use Rattle.ap_desc.specs.declared.design.Arg.{Arg}
use Rattle.ap_desc.specs.declared.design.Design.{Design}
use Rattle.ap_desc.specs.declared.design.Instr.{Instr}
use Rattle.ap_desc.specs.declared.design.Micro.{Micro}
use Rattle.ap_desc.specs.declared.design.Node.{Node as DesignNode}
use Rattle.ap_desc.specs.declared.design.Node.TheVariants as design_node
use Rattle.ap_course.specs.Choices.{port_of_node}
use Rattle.ap_merge.specs.Choices.{HasOperand}
use Rattle.ap_merge.specs.declared.table.Choice.{Choice}
use Rattle.ap_net.specs.Draft.{Draft}
use Rattle.ap_net.specs.Modules.{ModuleText}
use Rattle.ap_path.proofs.UseFacts.{flat_from, in_filtered}
use Rattle.ap_path.specs.Uses.{operand_at, path_port, use_of, uses_in, uses_of}
use Rattle.ap_path.specs.declared.table.PathUse.{PathUse}
use Rattle.ap_ports.proofs.Added.{low_from}
use Rattle.ap_ports.proofs.Conditions.{numbered_at}
use Rattle.ap_ports.proofs.Members.{contains_at, each_get, each_of, place_of}
use Rattle.ap_ports.specs.Numbers.{IsNumberedNode}
use Rattle.ap_stages.specs.Staged.{AreChoicesOf}
use Rattle.ap_stages.specs.Stood.{AreStanding, HasStanding, Stands}
use Rattle.ap_stages.specs.Supplies.{CanMake, Suits}
use Rattle.ap_stages.specs.declared.nodes.Supplied.{Supplied}
use Rattle.ap_stages.specs.declared.nodes.Supply.{Supply}
use Rattle.ap_stages.specs.declared.nodes.Supply.TheVariants as by

in_enumerated : {X : Type 0} (n : ℕ) (xs : List X) (x : X) → In x xs → (k : ℕ) × In (k, x) (enumerate_from n xs)
in_enumerated n [] x h = absurd h
in_enumerated n (y ∷ xs) x (inl e) = (n, inl (ap (λ z. (n, z)) e))
in_enumerated n (y ∷ xs) x (inr h) = let rest = in_enumerated (n + 1) xs x h in (rest.0, inr rest.1)

-- the use that a line makes of a node's port
record UsesNode (x : DesignNode) (n place : ℕ) (m : Micro) : Type 0 where
  used : PathUse
  gives : use_of n place m ≡ Some used
  port : used.port ≡ path_port (port_of_node x)
  first : Arg
  hands : operand_at used 0 ≡ Some first

line_uses : (x : DesignNode) (n place : ℕ) (m : Micro) → node_of m.act ≡ Some x → UsesNode x n place m
line_uses x n place m = go m.act
  where
    go : (a : Act) → node_of a ≡ Some x → UsesNode x n place (record { line = m.line; stage = m.stage; act = a })
    go (act.Compute unit op a b) e = record { used = _; gives = refl; port = ap (λ y. path_port (port_of_node y)) (same_Some _ x e); first = a; hands = refl }
    go (act.ReadFile file port index) e = record { used = _; gives = refl; port = ap (λ y. path_port (port_of_node y)) (same_Some _ x e); first = index; hands = refl }
    go (act.ReadMem mem at) e = record { used = _; gives = refl; port = ap (λ y. path_port (port_of_node y)) (same_Some _ x e); first = at; hands = refl }
    go _ e = absurd cc

chosen : (design : Design) (choices : List Choice) (stage : ℕ) (x : DesignNode) → AreChoicesOf design choices → IsNodeOf design stage x → Any (HasOperand (path_port (port_of_node x)) 0) choices
chosen design choices stage x are is_node =
    let (m, m_in, is) = any_in (λ (m : Micro). (m.stage ≡ stage) × (node_of m.act ≡ Some x)) (micros_in design) is_node in
    let (instr, instr_in, in_it) = flat_from (λ (i : Instr). i.micros) design.instrs m m_in in
    let (n, n_in) = in_enumerated 0 design.instrs instr instr_in in
    let (place, place_in) = in_enumerated 0 instr.micros m in_it in
    let line = line_uses x n place m is.1 in
    let own : In line.used (uses_in n instr.micros) = in_filtered (λ (at : ℕ × Micro). use_of n at.0 at.1) (enumerate_from 0 instr.micros) (place, m) line.used place_in line.gives in
    let all : In line.used (uses_of design) = in_flat_map (λ (i : ℕ × Instr). uses_in i.0 i.1.micros) (enumerate_from 0 design.instrs) (n, instr) line.used n_in own in
    let there : Contains are.paths.uses line.used = subst (λ us. Contains us line.used) (sym are.of.uses) (in_contains (uses_of design) line.used all) in
    subst (λ p. Any (HasOperand p 0) choices) line.port (are.are.all line.used 0 line.first there line.hands)

suits : (design : Design) (cards : List Card) (d : Draft) (modules : List ModuleText) (x : DesignNode) (s : Supply) → Stands design cards d modules x s → Suits design x s
suits design cards d modules (design_node.Unit v) (by.Quick place bits) h = slice_get_within design.units v h.has.unit h.has.at
suits design cards d modules (design_node.Unit v) (by.Slow sel a b y) h = tt
suits design cards d modules (design_node.FileRead file port) (by.Read index value) h = tt
suits design cards d modules (design_node.MemRead mem) (by.Read index value) h = tt
suits design cards d modules _ _ h = absurd h

-- the number of a node of the stage tells it from others
pub node_numbered : (design : Design) (cards : List Card) (stage : ℕ) (x : DesignNode) → FitsCards design cards → IsNodeOf design stage x → IsNumberedNode x
node_numbered design cards stage x fits is_node =
    let (m, m_in, is) = any_in (λ (m : Micro). (m.stage ≡ stage) × (node_of m.act ≡ Some x)) (micros_in design) is_node in
    let (place, has) = place_of (micros_in design) m (in_contains (micros_in design) m m_in) in
    low_from m.act x (numbered_at design fits.clean.sound place m has) is.1

pub can_make : (design : Design) (d : Draft) (modules : List ModuleText) (choices : List Choice) (supplies : List Supplied) (stage : ℕ) (order : List DesignNode) → AreChoicesOf design choices → IsChainOrder design stage order → AreStanding design d modules supplies order
    → Each (CanMake design choices supplies) order
can_make design d modules choices supplies stage order are chain stand = each_of (CanMake design choices supplies) order (λ k x at.
    let is_node : IsNodeOf design stage x = (chain.nodes x).0 (contains_at order k x at) in
    let has = each_get (HasStanding design stand.cards d modules supplies) order k x stand.each at in
    record {
      chosen = chosen design choices stage x are is_node;
      numbered = node_numbered design stand.cards stage x stand.fits is_node;
      supplied = subst (λ o. IsSomeAnd o (Suits design x)) (sym has.found) (suits design stand.cards d modules x has.supply has.stands);
    })
