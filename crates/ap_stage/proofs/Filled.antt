-- A row in which one more local may have got its net.
use Rattle.std.proofs.Common.{◌≡◌, ◌≢◌, ℕ, zero, suc, ◌+◌, ◌<◌, ◌≤◌, List, [], ◌∷◌, length, true, false, Option, Some, None, inl, inr, refl, sym, ap, subst, ◌∙◌, arith, ⊎_elim}
use Rattle.std.specs.Prelude.{◌⊎◌, is_some, slice_get, slice_set}
use Rattle.std.proofs.lemmas.Bool.{cases_eq, cases_lt}
use Rattle.std.proofs.lemmas.Option.{same_Some}
use Rattle.ap_desc.specs.Designs.{width_at}
use Rattle.ap_desc.specs.declared.design.Arg.TheVariants as arg
use Rattle.ap_net.specs.declared.cell.Wire.{Wire}
use Rattle.ap_net.specs.declared.net.ModuleNet.{ModuleNet}
use Rattle.ap_net.specs.Cells.{IsNet}
use Rattle.ap_net.specs.Draft.{Draft}
use Rattle.ap_stage.specs.declared.row.Line.{Line}
use Rattle.ap_stage.specs.declared.source.Ground.{Ground}
use Rattle.ap_stage.specs.declared.source.Scope.{Scope}
use Rattle.ap_stage.specs.Rows.{Fills, IsMade, Keeps}
use Rattle.ap_stage.specs.Sources.{HasNet, IsLineNet, IsRow, IsWired}
use Rattle.ap_stage.proofs.Grown.{made_kept}

pub set_same : {X : Type 0} (xs : List X) (i : ℕ) (y : X) → i < length xs → slice_get (slice_set xs i y) i ≡ Some y
set_same [] i y low = absurd (omega arith)
set_same (x ∷ xs) zero y low = refl
set_same (x ∷ xs) (suc i) y low = set_same xs i y (omega arith)

pub set_other : {X : Type 0} (xs : List X) (i j : ℕ) (y : X) → j ≢ i → slice_get (slice_set xs i y) j ≡ slice_get xs j
set_other [] i j y ne = refl
set_other (x ∷ xs) zero zero y ne = absurd (ne refl)
set_other (x ∷ xs) zero (suc j) y ne = refl
set_other (x ∷ xs) (suc i) zero y ne = refl
set_other (x ∷ xs) (suc i) (suc j) y ne = set_other xs i j y (λ e. ne (ap suc e))

pub set_long : {X : Type 0} (xs : List X) (i : ℕ) (y : X) → length (slice_set xs i y) ≡ length xs
set_long [] i y = refl
set_long (x ∷ xs) zero y = refl
set_long (x ∷ xs) (suc i) y = ap suc (set_long xs i y)

-- what stands at a place then
pub set_cases : {X : Type 0} (xs : List X) (i k : ℕ) (y x : X) → i < length xs → slice_get (slice_set xs i y) k ≡ Some x → ((k ≡ i) × (y ≡ x)) ⊎ ((k ≢ i) × (slice_get xs k ≡ Some x))
set_cases xs i k y x low at = ⊎_elim (λ (e : k ≡ i). inl (e, same_Some y x (sym (set_same xs i y low) ∙ ap (slice_get (slice_set xs i y)) (sym e) ∙ at))) (λ (ne : k ≢ i). inr (ne, sym (set_other xs i k y ne) ∙ at)) (cases_eq k i)

pub below : (i k : ℕ) → k < i + 1 → k ≢ i → k < i
below i k low ne = ⊎_elim (λ (lt : k < i). lt) (λ (ge : i ≤ k). let same : k ≡ i = omega arith in absurd (ne same)) (cases_lt k i)

pub above : (i k : ℕ) → i + 1 ≤ k → k ≡ i → ⊥
above i k high e = omega arith

pub keeps_same : (row : List (Option Wire)) → Keeps row row
keeps_same row = record { long = refl; kept = λ j w at. at }

pub set_keeps : (row : List (Option Wire)) (i : ℕ) (w : Wire) → slice_get row i ≡ Some None → Keeps row (slice_set row i (Some w))
set_keeps row i w none = record { long = set_long row i (Some w); kept = λ j x at. go j x at (cases_eq j i) }
  where
    go : (j : ℕ) (x : Wire) → slice_get row j ≡ Some (Some x) → (j ≡ i) ⊎ (j ≢ i) → slice_get (slice_set row i (Some w)) j ≡ Some (Some x)
    go j x at (inl e) = let both : Some None ≡ Some (Some x) = sym none ∙ sym (ap (slice_get row) e) ∙ at in cc
    go j x at (inr ne) = set_other row i j (Some w) ne ∙ at

-- nothing came
pub fills_none : (d : Draft) (ground : Ground) (scope : Scope) (row : List (Option Wire)) (l : Line) → (IsWired row l.act → HasNet row (arg.Local l.local)) → Fills d ground scope row row l
fills_none d ground scope row l found = record { keeps = keeps_same row; others = λ j ne. refl; made = λ w at. inl at; found = found }

-- the net of the line's local came
pub fills_one : (d : Draft) (ground : Ground) (scope : Scope) (row : List (Option Wire)) (l : Line) (w : Wire) → slice_get row l.local ≡ Some None → l.local < length row → IsWired row l.act → IsLineNet d ground scope row l.act w
    → Fills d ground scope row (slice_set row l.local (Some w)) l
fills_one d ground scope row l w none low wired net =
    let new : List (Option Wire) = slice_set row l.local (Some w) in
    let keeps = set_keeps row l.local w none in
    let here : slice_get new l.local ≡ Some (Some w) = set_same row l.local (Some w) low in
    record {
      keeps = keeps;
      others = λ j ne. set_other row l.local j (Some w) ne;
      made = λ x at.
          let same : w ≡ x = same_net w x (sym here ∙ at) in
          inr (subst (IsMade d ground scope new l) same (made_kept d ground scope row new l w keeps (record { wired = wired; net = net })));
      found = λ h. (w, here);
    }
  where
    same_net : (x y : Wire) → Some (Some x) ≡ Some (Some y) → x ≡ y
    same_net x y e = same_Some x y (same_Some (Some x) (Some y) e)

pub row_filled : (nets : List ModuleNet) (scope : Scope) (row : List (Option Wire)) (i : ℕ) (w : Wire) → i < length row → IsNet nets w → w.width ≡ width_at (λ (width : ℕ). width) scope.widths i → IsRow nets scope row → IsRow nets scope (slice_set row i (Some w))
row_filled nets scope row i w low net wide h = record {
  long = set_long row i (Some w) ∙ h.long;
  nets_are = λ j x at. ⊎_elim (λ e. subst (IsNet nets) (here j x at e) net) (λ ne. h.nets_are j x (sym (set_other row i j (Some w) ne) ∙ at)) (cases_eq j i);
  wide = λ j x at. ⊎_elim
      (λ e. subst (λ (y : Wire). y.width ≡ width_at (λ (width : ℕ). width) scope.widths j) (here j x at e) (wide ∙ ap (width_at (λ (width : ℕ). width) scope.widths) (sym e)))
      (λ ne. h.wide j x (sym (set_other row i j (Some w) ne) ∙ at)) (cases_eq j i);
}
  where
    same_net : (x y : Wire) → Some (Some x) ≡ Some (Some y) → x ≡ y
    same_net x y e = same_Some x y (same_Some (Some x) (Some y) e)

    here : (j : ℕ) (x : Wire) → slice_get (slice_set row i (Some w)) j ≡ Some (Some x) → j ≡ i → w ≡ x
    here j x at e = same_net w x (sym (set_same row i (Some w) low) ∙ sym (ap (slice_get (slice_set row i (Some w))) e) ∙ at)

-- what stood at a place
pub had_net : (row : List (Option Wire)) (i : ℕ) (o : Option Wire) → is_some o ≡ true → slice_get row i ≡ Some o → HasNet row (arg.Local i)
had_net row i None e at = absurd cc
had_net row i (Some w) e at = (w, at)

pub had_none : (row : List (Option Wire)) (i : ℕ) (o : Option Wire) → is_some o ≡ false → slice_get row i ≡ Some o → slice_get row i ≡ Some None
had_none row i None e at = at
had_none row i (Some w) e at = absurd cc
