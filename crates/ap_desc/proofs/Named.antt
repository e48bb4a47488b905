-- Names in lists: where a name stands that is there, and lists in which no name stands twice.
use Rattle.std.proofs.Common.{◌≡◌, ℕ, suc, ◌<◌, ◌+◌, Bool, true, false, List, [], ◌∷◌, ◌++◌, map, reverse, length, cond, Some, refl, sym, subst, ap, ◌∙◌, arith, append-nil}
use Rattle.std.specs.Prelude.{◌||◌, not, slice_get}
use Rattle.std.specs.List.{list_any}
use Rattle.std.specs.Str.{bytes_eq}
use Rattle.std.proofs.lemmas.Bool.{and_from, and_parts, both_ways, false_from_ne_true, not-false, not_from_false, not-true, or_from, or_parts}
use Rattle.std.proofs.lemmas.List.{length-map, reverse-append}
use Rattle.std.proofs.lemmas.List.Folds.{list_any-append}
use Rattle.std.proofs.lemmas.Slice.Eq.{bytes_eq-Decides}
use Rattle.ap_desc.specs.NameFaults.{is_missing}
use Rattle.ap_desc.specs.Parts.{named, place_of}
use Rattle.ap_desc.specs.Reserved.{is_among}
use Rattle.ap_desc.specs.Sound.{are_distinct}

-- a name that is there has a place
pub place_below : (names : List (List ℕ)) (name : List ℕ) → is_among name names ≡ true → place_of names name < length names
place_below [] name e = absurd cc
place_below (first ∷ names) name e = go (bytes_eq name first) refl (place_below names name) where
  go : (b : Bool) → bytes_eq name first ≡ b → (is_among name names ≡ true → place_of names name < length names) → cond (not b) (1 + place_of names name) 0 < suc (length names)
  go true same below = omega arith
  go false other below = let later : is_among name names ≡ true = rw other at e in let low = below later in omega arith

pub there_if : (names : List (List ℕ)) (name : List ℕ) → is_missing name names ≡ false → is_among name names ≡ true
there_if names name e = not-false (is_among name names) e

pub place_if : {X : Type 0} (name_of : X → List ℕ) (xs : List X) (name : List ℕ) → is_missing name (map name_of xs) ≡ false → place_of (map name_of xs) name < length xs
place_if name_of xs name e = subst (λ n. place_of (map name_of xs) name < n) (length-map xs name_of) (place_below (map name_of xs) name (there_if (map name_of xs) name e))

-- at its place stands the first of the name
pub at_place : {X : Type 0} (name_of : X → List ℕ) (xs : List X) (name : List ℕ) → slice_get xs (place_of (map name_of xs) name) ≡ named name_of xs name
at_place name_of [] name = refl
at_place {X} name_of (x ∷ xs) name = go (bytes_eq name (name_of x)) (at_place name_of xs name) where
  go : (b : Bool) → slice_get xs (place_of (map name_of xs) name) ≡ named name_of xs name → slice_get (x ∷ xs) (cond (not b) (1 + place_of (map name_of xs) name) 0) ≡ cond b (Some x) (named name_of xs name)
  go true later = refl
  go false later = let up : 1 + place_of (map name_of xs) name ≡ suc (place_of (map name_of xs) name) = omega arith in ap (slice_get (x ∷ xs)) up ∙ later

-- and it is there
pub named_there : {X : Type 0} (name_of : X → List ℕ) (xs : List X) (name : List ℕ) → is_missing name (map name_of xs) ≡ false → (x : X) × (named name_of xs name ≡ Some x)
named_there name_of [] name e = absurd cc
named_there {X} name_of (x ∷ xs) name e = go (bytes_eq name (name_of x)) refl (named_there name_of xs name) where
  go : (b : Bool) → bytes_eq name (name_of x) ≡ b → (is_missing name (map name_of xs) ≡ false → (y : X) × (named name_of xs name ≡ Some y)) → (y : X) × (cond b (Some x) (named name_of xs name) ≡ Some y)
  go true same there = (x, refl)
  go false other there = let later : is_missing name (map name_of xs) ≡ false = rw other at e in there later

differ_back : (a b : List ℕ) → bytes_eq a b ≡ false → bytes_eq b a ≡ false
differ_back a b e = false_from_ne_true (bytes_eq b a) (λ same. both_ways (bytes_eq a b) e ((bytes_eq-Decides a b).1 (sym ((bytes_eq-Decides b a).0 same))))

among_append : (name : List ℕ) (xs ys : List (List ℕ)) → is_among name (xs ++ ys) ≡ (is_among name xs || is_among name ys)
among_append name xs ys = list_any-append (bytes_eq name) xs ys

-- one more name, that none of the others is
pub distinct_with : (xs ys : List (List ℕ)) (name : List ℕ) → are_distinct (xs ++ ys) ≡ true → is_among name (xs ++ ys) ≡ false → are_distinct (xs ++ name ∷ ys) ≡ true
distinct_with [] ys name distinct new = and_from (not (is_among name ys)) (are_distinct ys) (not_from_false (is_among name ys) new) distinct
distinct_with (x ∷ xs) ys name distinct new =
    let parts = and_parts (not (is_among x (xs ++ ys))) (are_distinct (xs ++ ys)) distinct in
    let news = or_parts (bytes_eq name x) (is_among name (xs ++ ys)) new in
    let out : is_among x (xs ++ ys) ≡ false = not-true (is_among x (xs ++ ys)) parts.0 in
    let two = or_parts (is_among x xs) (is_among x ys) (sym (among_append x xs ys) ∙ out) in
    let still : is_among x (xs ++ name ∷ ys) ≡ false = among_append x xs (name ∷ ys) ∙ or_from (is_among x xs) (bytes_eq x name || is_among x ys) two.0 (or_from (bytes_eq x name) (is_among x ys) (differ_back name x news.0) two.1) in
    and_from (not (is_among x (xs ++ name ∷ ys))) (are_distinct (xs ++ name ∷ ys)) (not_from_false (is_among x (xs ++ name ∷ ys)) still) (distinct_with xs ys name parts.1 news.1)

pub any_reverse : {X : Type 0} (test : X → Bool) (xs : List X) (b : Bool) → list_any test xs ≡ b → list_any test (reverse xs) ≡ b
any_reverse test [] b e = e
any_reverse test (x ∷ xs) b e = subst (λ ys. list_any test ys ≡ b) (sym (reverse-append (x ∷ []) xs)) (list_any-append test (reverse xs) (x ∷ []) ∙ swap (list_any test (reverse xs)) (test x) ∙ ap (λ c. test x || c) (any_reverse test xs (list_any test xs) refl) ∙ e) where
  swap : (a c : Bool) → (a || (c || false)) ≡ (c || a)
  swap true true = refl
  swap true false = refl
  swap false true = refl
  swap false false = refl

pub distinct_reverse : (xs : List (List ℕ)) → are_distinct xs ≡ true → are_distinct (reverse xs) ≡ true
distinct_reverse [] e = refl
distinct_reverse (x ∷ xs) e =
    let parts = and_parts (not (is_among x xs)) (are_distinct xs) e in
    let new = any_reverse (bytes_eq x) xs false (not-true (is_among x xs) parts.0) in
    subst (λ ys. are_distinct ys ≡ true) (sym (reverse-append (x ∷ []) xs))
    (distinct_with (reverse xs) [] x (subst (λ ys. are_distinct ys ≡ true) (sym (append-nil (reverse xs))) (distinct_reverse xs parts.1)) (subst (λ ys. is_among x ys ≡ false) (sym (append-nil (reverse xs))) new))
