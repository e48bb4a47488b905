-- Instructions that are the same but for further nets of their rows.
use Rattle.std.proofs.Common.{◌≡◌, ℕ, suc, List, [], ◌∷◌, length, Some, inl, inr, refl, sym, ap, subst, ◌∙◌}
use Rattle.std.specs.Prelude.{slice_get}
use Rattle.std.specs.List.{AllByRecursion as Each}
use Rattle.ap_desc.specs.Chains.{operands_of}
use Rattle.ap_desc.specs.declared.design.Arg.{Arg}
use Rattle.ap_desc.specs.declared.design.Arg.TheVariants as arg
use Rattle.ap_stage.specs.declared.chain.Node.{Node}
use Rattle.ap_stage.specs.declared.node.Course.{Course}
use Rattle.ap_stage.specs.declared.node.PortUse.{PortUse}
use Rattle.ap_stage.specs.declared.row.Line.{Line}
use Rattle.ap_stage.specs.Chained.{HasOrigin, IsBefore, IsPortless, IsWhole, UsesOnly}
use Rattle.ap_stage.specs.Courses.{AreSame, IsSame}
use Rattle.ap_stage.specs.Users.{args_of}
use Rattle.ap_stage.proofs.Grown.{has_kept}
use Rattle.ap_stage.proofs.Listed.{each_at, each_by_place}

pub same_long : (old new : List Course) → AreSame old new → length new ≡ length old
same_long [] [] h = refl
same_long [] (y ∷ new) h = absurd h
same_long (x ∷ old) [] h = absurd h
same_long (x ∷ old) (y ∷ new) h = ap suc (same_long old new h.1)

origin_same : (old new : Course) → IsSame old new → (a : Arg) → HasOrigin old a → HasOrigin new a
origin_same old new h (arg.Local i) (inl has) = inl (has_kept old.row.items new.row.items h.keeps (arg.Local i) has)
origin_same old new h (arg.Local i) (inr (inl (k, l, at, is))) = inr (inl (k, l, ap (λ ls. slice_get ls k) h.lines ∙ at, is))
origin_same old new h (arg.Local i) (inr (inr (k, u, at, is))) = inr (inr (k, u, ap (λ us. slice_get us k) h.uses ∙ at, is))
origin_same old new h (arg.Field i) o = tt
origin_same old new h arg.Pc o = tt
origin_same old new h arg.Link o = tt

abbrev UsedOnce : List PortUse → Type 0
UsedOnce uses = (j k : ℕ) (one other : PortUse) → slice_get uses j ≡ Some one → slice_get uses k ≡ Some other → one.port ≡ other.port → j ≡ k

whole_one : (old new : Course) → IsSame old new → IsWhole old → IsWhole new
whole_one old new h w = record {
  portless = subst (Each (λ (l : Line). IsPortless l.act)) (sym h.lines) w.portless;
  lines = subst (Each (λ (l : Line). Each (HasOrigin new) (operands_of l.act))) (sym h.lines)
      (each_by_place (λ (l : Line). Each (HasOrigin new) (operands_of l.act)) old.lines (λ k l at.
      each_by_place (HasOrigin new) (operands_of l.act) (λ j a there.
      origin_same old new h a (each_at (HasOrigin old) (operands_of l.act) j a (each_at (λ (x : Line). Each (HasOrigin old) (operands_of x.act)) old.lines k l w.lines at) there))));
  uses = subst (Each (λ (u : PortUse). Each (HasOrigin new) (args_of u.asked))) (sym h.uses)
      (each_by_place (λ (u : PortUse). Each (HasOrigin new) (args_of u.asked)) old.uses (λ k u at.
      each_by_place (HasOrigin new) (args_of u.asked) (λ j a there.
      origin_same old new h a (each_at (HasOrigin old) (args_of u.asked) j a (each_at (λ (x : PortUse). Each (HasOrigin old) (args_of x.asked)) old.uses k u w.uses at) there))));
  once = subst UsedOnce (sym h.uses) w.once;
}

pub whole_same : (old new : List Course) → AreSame old new → Each IsWhole old → Each IsWhole new
whole_same [] [] h w = tt
whole_same [] (y ∷ new) h w = absurd h
whole_same (x ∷ old) [] h w = absurd h
whole_same (x ∷ old) (y ∷ new) h w = (whole_one x y h.0 w.0, whole_same old new h.1 w.1)

pub only_same : (nodes : List Node) (old new : List Course) → AreSame old new → Each (UsesOnly nodes) old → Each (UsesOnly nodes) new
only_same nodes [] [] h only = tt
only_same nodes [] (y ∷ new) h only = absurd h
only_same nodes (x ∷ old) [] h only = absurd h
only_same nodes (x ∷ old) (y ∷ new) h only = (subst (Each (λ (u : PortUse). IsBefore nodes (length nodes) u.port)) (sym h.0.uses) only.0, only_same nodes old new h.1 only.1)
