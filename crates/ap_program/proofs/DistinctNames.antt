-- Names of which none stands twice.
use Rattle.std.proofs.Common.{◌≡◌, ℕ, zero, suc, ◌<◌, ◌++◌, ◌||◌, ◌&&◌, not, Bool, true, false, List, [], ◌∷◌, Some, refl, sym, ap, ◌∙◌, arith}
use Rattle.std.specs.Prelude.{slice_get}
use Rattle.std.specs.List.{list_any}
use Rattle.std.specs.Str.{bytes_eq}
use Rattle.std.proofs.lemmas.Bool.{and_parts}
use Rattle.std.proofs.lemmas.List.Folds.{list_any-append}
use Rattle.std.proofs.lemmas.Option.{same_Some}
use Rattle.ap_desc.specs.Sound.{are_distinct}

any_at : {X : Type 0} (p : X → Bool) (xs : List X) (j : ℕ) (b : X) → slice_get xs j ≡ Some b → p b ≡ true → list_any p xs ≡ true
any_at p [] j b at is = absurd cc
any_at p (x ∷ xs) zero b at is = by (p x) (ap p (same_Some x b at) ∙ is)
  where
    by : (c : Bool) → c ≡ true → (c || list_any p xs) ≡ true
    by true e = refl
    by false e = absurd cc
any_at p (x ∷ xs) (suc j) b at is = by (p x) (any_at p xs j b at is)
  where
    by : (c : Bool) → list_any p xs ≡ true → (c || list_any p xs) ≡ true
    by true e = refl
    by false e = e

-- a name stands once
pub distinct_at : (names : List (List ℕ)) → are_distinct names ≡ true → (i j : ℕ) (a b : List ℕ) → i < j → slice_get names i ≡ Some a → slice_get names j ≡ Some b → bytes_eq a b ≡ true → ⊥
distinct_at [] d i j a b lt at there same = absurd cc
distinct_at (x ∷ names) d i zero a b lt at there same = absurd (omega arith)
distinct_at (x ∷ names) d zero (suc j) a b lt at there same =
    let parts = and_parts (not (list_any (bytes_eq x) names)) (are_distinct names) d in
    let one = any_at (bytes_eq x) names j b there (ap (λ n. bytes_eq n b) (same_Some x a at) ∙ same) in
    let none : not true ≡ true = ap not (sym one) ∙ parts.0 in
    cc
distinct_at (x ∷ names) d (suc i) (suc j) a b lt at there same = distinct_at names (and_parts (not (list_any (bytes_eq x) names)) (are_distinct names) d).1 i j a b (omega arith) at there same

-- so it does in a part of the names
pub distinct_right : (xs ys : List (List ℕ)) → are_distinct (xs ++ ys) ≡ true → are_distinct ys ≡ true
distinct_right [] ys d = d
distinct_right (x ∷ xs) ys d = distinct_right xs ys (and_parts (not (list_any (bytes_eq x) (xs ++ ys))) (are_distinct (xs ++ ys)) d).1

none_left : (a b : Bool) → not (a || b) ≡ true → not a ≡ true
none_left true b e = absurd cc
none_left false b e = refl

both : (a b : Bool) → a ≡ true → b ≡ true → (a && b) ≡ true
both true b e f = f
both false b e f = absurd cc

pub distinct_left : (xs ys : List (List ℕ)) → are_distinct (xs ++ ys) ≡ true → are_distinct xs ≡ true
distinct_left [] ys d = refl
distinct_left (x ∷ xs) ys d =
    let parts = and_parts (not (list_any (bytes_eq x) (xs ++ ys))) (are_distinct (xs ++ ys)) d in
    both (not (list_any (bytes_eq x) xs)) (are_distinct xs) (none_left (list_any (bytes_eq x) xs) (list_any (bytes_eq x) ys) (ap not (sym (list_any-append (bytes_eq x) xs ys)) ∙ parts.0)) (distinct_left xs ys parts.1)
