-- The nodes of a stage's order are units, read ports and memories of the design.
use Rattle.std.proofs.Common.{◌≡◌, ℕ, ◌+◌, ◌<◌, List, [], ◌∷◌, Some, inl, inr, sym, subst}
use Rattle.std.specs.Prelude.{slice_get}
use Rattle.std.proofs.lemmas.Option.{same_Some}
use Rattle.ap_desc.proofs.Members.{In, any_in, each_contained, in_contains}
use Rattle.ap_desc.specs.Chains.{IsNodeOf, node_of}
use Rattle.ap_desc.specs.Clean.{IsClean}
use Rattle.ap_desc.specs.Designs.{AreInRange, IsInRange, IsInstr, IsRight, assigned_count}
use Rattle.ap_desc.specs.Ports.{micros_in}
use Rattle.ap_desc.specs.declared.design.Act.{Act}
use Rattle.ap_desc.specs.declared.design.Act.TheVariants as act
use Rattle.ap_desc.specs.declared.design.Design.{Design}
use Rattle.ap_desc.specs.declared.design.Field.{Field}
use Rattle.ap_desc.specs.declared.design.File.{File}
use Rattle.ap_desc.specs.declared.design.Format.{Format}
use Rattle.ap_desc.specs.declared.design.Instr.{Instr}
use Rattle.ap_desc.specs.declared.design.Micro.{Micro}
use Rattle.ap_desc.specs.declared.design.Node.{Node as DesignNode}
use Rattle.ap_ports.proofs.Added.{low_from}
use Rattle.ap_path.proofs.UseFacts.{flat_from}
use Rattle.ap_ports.proofs.Conditions.{numbered_at}
use Rattle.ap_ports.proofs.Members.{contains_at, each_of, place_of, some_and}
use Rattle.ap_supply.specs.Supplies.{IsNodeIn}
use Rattle.ap_staged.specs.Standing.{IsNumberedIn, OrdersAreNumbered}

-- what a line names is there
record RangesIn (design : Design) (fields : List Field) (m : Micro) : Type 0 where
  locals : ℕ
  range : IsInRange design locals fields m.act

in_range : (design : Design) (locals : ℕ) (fields : List Field) (micros : List Micro) (m : Micro) → AreInRange design locals fields micros → In m micros → RangesIn design fields m
in_range design locals fields [] m h there = absurd there
in_range design locals fields (x ∷ micros) m h (inl same) = record { locals = locals; range = subst (λ (y : Micro). IsInRange design locals fields y.act) (sym same) h.0 }
in_range design locals fields (x ∷ micros) m h (inr later) = in_range design (locals + assigned_count x.act) fields micros m h.1 later

node_inside : (design : Design) (locals : ℕ) (fields : List Field) (a : Act) (x : DesignNode) → IsInRange design locals fields a → node_of a ≡ Some x → IsNodeIn design x
node_inside design locals fields (act.Compute unit op a b) x h e = subst (IsNodeIn design) (same_Some _ x e) h.0
node_inside design locals fields (act.ReadFile file port index) x h e =
    let (f, at, low) = some_and (λ (f : File). port < f.reads) (slice_get design.files file) h.0 in
    subst (IsNodeIn design) (same_Some _ x e) (f, at, low)
node_inside design locals fields (act.ReadMem mem at) x h e = subst (IsNodeIn design) (same_Some _ x e) h.0
node_inside design locals fields _ x h e = absurd cc

numbered_in : (design : Design) (stage : ℕ) (x : DesignNode) → IsClean design → IsNodeOf design stage x → IsNumberedIn design x
numbered_in design stage x clean is_node =
    let (m, m_in, is) = any_in (λ (m : Micro). (m.stage ≡ stage) × (node_of m.act ≡ Some x)) (micros_in design) is_node in
    let (instr, instr_in, own) = flat_from (λ (i : Instr). i.micros) design.instrs m m_in in
    let right : IsRight design instr = each_contained (IsRight design) design.instrs instr clean.sound.instrs (in_contains design.instrs instr instr_in) in
    let (format, there, is_instr) = some_and (λ (f : Format). IsInstr design f.fields instr) (slice_get design.formats instr.format) right in
    let ranged = in_range design 0 format.fields instr.micros m is_instr.range own in
    let (place, has) = place_of (micros_in design) m (in_contains (micros_in design) m m_in) in
    record {
      inside = node_inside design ranged.locals format.fields m.act x ranged.range is.1;
      numbered = low_from m.act x (numbered_at design clean.sound place m has) is.1;
    }

pub orders_are_numbered : OrdersAreNumbered
orders_are_numbered design stage order clean chain = each_of (IsNumberedIn design) order (λ k x at. numbered_in design stage x clean ((chain.nodes x).0 (contains_at order k x at)))
