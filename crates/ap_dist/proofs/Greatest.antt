-- The greatest of 1 and what a list's elements give.
use Rattle.std.proofs.Common.{◌≡◌, ℕ, zero, suc, ◌+◌, ◌≤◌, max, List, [], ◌∷◌, ◌++◌, get_or, take, Option, Some, None, refl, ap, ◌∙◌, arith}
use Rattle.std.specs.Prelude.{filter_map, fold, slice_get, option_and_then}
use Rattle.std.specs.Option.{option_map_or}
use Rattle.std.specs.List.{cons_option}
use Rattle.std.proofs.Math.Nat.{le-max_left, le-max_right, max-le}
use Rattle.std.proofs.lemmas.List.{append-nil, take_more}
use Rattle.std.proofs.lemmas.List.Elements.{filter_map-append}
use Rattle.std.proofs.lemmas.List.Sums.{fold_push}
use Rattle.std.proofs.lemmas.Option.{get_or_from_slice_get, slice_get_within}
use Rattle.ap_dist.specs.Distances.{greatest}

-- from a number on
abbrev pub most_from : {X : Type 0} → (X → ℕ) → ℕ → List X → ℕ
most_from of a xs = fold (λ most x. max most (of x)) a xs

pub at_least_first : {X : Type 0} (of : X → ℕ) (a : ℕ) (xs : List X) → a ≤ most_from of a xs
at_least_first of a [] = omega arith
at_least_first of a (x ∷ xs) = let first : a ≤ max a (of x) = le-max_left a (of x) in let rest = at_least_first of (max a (of x)) xs in omega arith

-- where each gives at most this
pub most_within : {X : Type 0} (of : X → ℕ) (a m : ℕ) (xs : List X) → a ≤ m → ((i : ℕ) (x : X) → slice_get xs i ≡ Some x → of x ≤ m) → most_from of a xs ≤ m
most_within of a m [] low all = low
most_within of a m (x ∷ xs) low all = most_within of (max a (of x)) m xs (max-le low (all 0 x refl)) (λ i y at. all (suc i) y at)

-- each gives at most the greatest
pub within_most : {X : Type 0} (of : X → ℕ) (a : ℕ) (xs : List X) (i : ℕ) (x : X) → slice_get xs i ≡ Some x → of x ≤ most_from of a xs
within_most of a [] i x at = absurd cc
within_most of a (y ∷ ys) zero x at =
    let here : y ≡ x = cc in
    let first : of y ≤ max a (of y) = le-max_right a (of y) in
    let rest : max a (of y) ≤ most_from of (max a (of y)) ys = at_least_first of (max a (of y)) ys in
    let same : of y ≡ of x = ap of here in
    omega arith
within_most of a (y ∷ ys) (suc i) x at = within_most of (max a (of y)) ys i x at

-- where all give 1 the greatest is 1
pub most_of_ones : {X : Type 0} (xs : List X) → most_from (λ (x : X). 1) 1 xs ≡ 1
most_of_ones [] = refl
most_of_ones (x ∷ xs) = most_of_ones xs

-- where each gives at least as much
pub most_grows : {X : Type 0} (one other : X → ℕ) (a b : ℕ) (xs : List X) → a ≤ b → ((x : X) → one x ≤ other x) → most_from one a xs ≤ most_from other b xs
most_grows one other a b [] low all = low
most_grows one other a b (x ∷ xs) low all =
    let here : one x ≤ other x = all x in
    let left : b ≤ max b (other x) = le-max_left b (other x) in
    let right : other x ≤ max b (other x) = le-max_right b (other x) in
    let first : a ≤ max b (other x) = omega arith in
    let second : one x ≤ max b (other x) = omega arith in
    most_grows one other (max a (one x)) (max b (other x)) xs (max-le first second) all

-- what a place of a list is mapped to
abbrev pub mapped_at : {X Y : Type 0} → (X → Option Y) → List X → ℕ → Option Y
mapped_at h xs i = option_and_then h (slice_get xs i)

-- a kept element is that of a place
pub record IsKept {X Y : Type 0} (h : X → Option Y) (xs : List X) (y : Y) : Type 0 where
  pub place : ℕ
  pub is : mapped_at h xs place ≡ Some y

kept_later : {X Y : Type 0} (h : X → Option Y) (x : X) (xs : List X) (y : Y) → IsKept h xs y → IsKept h (x ∷ xs) y
kept_later h x xs y k = record { place = suc k.place; is = k.is }

kept_in : {X Y : Type 0} (h : X → Option Y) (x : X) (xs : List X) (o : Option Y) → h x ≡ o → (i : ℕ) (y : Y) → slice_get (cons_option o (filter_map h xs)) i ≡ Some y
    → ((j : ℕ) (z : Y) → slice_get (filter_map h xs) j ≡ Some z → IsKept h xs z) → IsKept h (x ∷ xs) y
kept_in h x xs None e i y at rest = kept_later h x xs y (rest i y at)
kept_in h x xs (Some z) e zero y at rest = record { place = 0; is = e ∙ at }
kept_in h x xs (Some z) e (suc i) y at rest = kept_later h x xs y (rest i y at)

pub kept_at : {X Y : Type 0} (h : X → Option Y) (xs : List X) (i : ℕ) (y : Y) → slice_get (filter_map h xs) i ≡ Some y → IsKept h xs y
kept_at h [] i y at = absurd cc
kept_at h (x ∷ xs) i y at = kept_in h x xs (h x) refl i y at (kept_at h xs)

-- what a place is mapped to is kept
pub record IsListed {Y : Type 0} (ys : List Y) (y : Y) : Type 0 where
  pub place : ℕ
  pub is : slice_get ys place ≡ Some y

listed_in : {Y : Type 0} (o : Option Y) (ys : List Y) (y : Y) → IsListed ys y → IsListed (cons_option o ys) y
listed_in None ys y l = l
listed_in (Some z) ys y l = record { place = suc l.place; is = l.is }

listed_first : {Y : Type 0} (o : Option Y) (ys : List Y) (y : Y) → o ≡ Some y → IsListed (cons_option o ys) y
listed_first None ys y e = absurd cc
listed_first (Some z) ys y e = record { place = 0; is = e }

pub listed_at : {X Y : Type 0} (h : X → Option Y) (xs : List X) (i : ℕ) (y : Y) → mapped_at h xs i ≡ Some y → IsListed (filter_map h xs) y
listed_at h [] i y at = absurd cc
listed_at h (x ∷ xs) zero y at = listed_first (h x) (filter_map h xs) y at
listed_at h (x ∷ xs) (suc i) y at = listed_in (h x) (filter_map h xs) y (listed_at h xs i y at)

-- the greatest over what a list is mapped to, by its places
pub kept_within : {X Y : Type 0} (h : X → Option Y) (of : Y → ℕ) (xs : List X) (m : ℕ) → 1 ≤ m → ((i : ℕ) → option_map_or of (mapped_at h xs i) 0 ≤ m) → greatest of (filter_map h xs) ≤ m
kept_within h of xs m low all = most_within of 1 m (filter_map h xs) low (λ i y at.
    let k = kept_at h xs i y at in
    let is : option_map_or of (mapped_at h xs k.place) 0 ≡ of y = ap (λ o. option_map_or of o 0) k.is in
    let less : option_map_or of (mapped_at h xs k.place) 0 ≤ m = all k.place in
    omega arith)

pub within_kept : {X Y : Type 0} (h : X → Option Y) (of : Y → ℕ) (xs : List X) (i : ℕ) (y : Y) → mapped_at h xs i ≡ Some y → of y ≤ greatest of (filter_map h xs)
within_kept h of xs i y at = let l = listed_at h xs i y at in within_most of 1 (filter_map h xs) l.place y l.is

-- one more of a list that is mapped
pub kept_none_more : {X Y : Type 0} (h : X → Option Y) (xs : List X) (i : ℕ) (x : X) → slice_get xs i ≡ Some x → h x ≡ None → filter_map h (take (i + 1) xs) ≡ filter_map h (take i xs)
kept_none_more h xs i x at e =
    let lt = slice_get_within xs i x at in
    ap (filter_map h) (take_more xs i x lt) ∙ filter_map-append h (take i xs) (get_or xs i x ∷ []) ∙ ap (λ z. filter_map h (take i xs) ++ cons_option (h z) []) (get_or_from_slice_get xs i x x at)
    ∙ ap (λ o. filter_map h (take i xs) ++ cons_option o []) e ∙ append-nil (filter_map h (take i xs))

pub kept_some_more : {X Y : Type 0} (h : X → Option Y) (xs : List X) (i : ℕ) (x : X) (y : Y) → slice_get xs i ≡ Some x → h x ≡ Some y → filter_map h (take (i + 1) xs) ≡ filter_map h (take i xs) ++ y ∷ []
kept_some_more h xs i x y at e =
    let lt = slice_get_within xs i x at in
    ap (filter_map h) (take_more xs i x lt) ∙ filter_map-append h (take i xs) (get_or xs i x ∷ []) ∙ ap (λ z. filter_map h (take i xs) ++ cons_option (h z) []) (get_or_from_slice_get xs i x x at)
    ∙ ap (λ o. filter_map h (take i xs) ++ cons_option o []) e

pub greatest_none_more : {X Y : Type 0} (h : X → Option Y) (of : Y → ℕ) (xs : List X) (i : ℕ) (x : X) → slice_get xs i ≡ Some x → h x ≡ None → greatest of (filter_map h (take (i + 1) xs)) ≡ greatest of (filter_map h (take i xs))
greatest_none_more h of xs i x at e = ap (greatest of) (kept_none_more h xs i x at e)

pub greatest_some_more : {X Y : Type 0} (h : X → Option Y) (of : Y → ℕ) (xs : List X) (i : ℕ) (x : X) (y : Y) → slice_get xs i ≡ Some x → h x ≡ Some y
    → greatest of (filter_map h (take (i + 1) xs)) ≡ max (greatest of (filter_map h (take i xs))) (of y)
greatest_some_more h of xs i x y at e = ap (greatest of) (kept_some_more h xs i x y at e) ∙ fold_push (λ most z. max most (of z)) 1 (filter_map h (take i xs)) y

-- one more of a list
pub greatest_more : {X : Type 0} (of : X → ℕ) (xs : List X) (i : ℕ) (x : X) → slice_get xs i ≡ Some x → greatest of (take (i + 1) xs) ≡ max (greatest of (take i xs)) (of x)
greatest_more of xs i x at =
    let lt = slice_get_within xs i x at in
    ap (greatest of) (take_more xs i x lt) ∙ fold_push (λ most z. max most (of z)) 1 (take i xs) (get_or xs i x) ∙ ap (λ z. max (greatest of (take i xs)) (of z)) (get_or_from_slice_get xs i x x at)
