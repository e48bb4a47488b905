-- Lists in which nothing stands twice.
use Rattle.std.proofs.Common.{◌≡◌, ◌≢◌, ℕ, zero, suc, ◌+◌, ◌<◌, Bool, true, false, if◌then◌else◌, List, [], ◌∷◌, ◌++◌, map, filter, flat_map, Some, refl, sym, ap, subst, ◌∙◌, arith}
use Rattle.std.specs.Prelude.{slice_get, not}
use Rattle.std.specs.List.{AllByRecursion as Each, list_any, range_with_len}
use Rattle.std.specs.Str.{bytes_eq}
use Rattle.std.proofs.lemmas.Bool.{and_parts, both_ways, not-true, or_parts}
use Rattle.std.proofs.lemmas.Slice.Eq.{bytes_eq-Decides}
use Rattle.ap_desc.specs.Sound.{are_distinct}
use Rattle.ap_net.specs.Names.{AreDistinct}
use Rattle.ap_net.proofs.Lists.{All-from, All-join}

-- no element stands twice
abbrev pub Once : {X : Type 0} → List X → Type 0
Once [] = Unit {0}
Once (x ∷ xs) = Each (λ y. y ≢ x) xs × Once xs

pub distinct_once : (names : List (List ℕ)) → Once names → AreDistinct names
distinct_once [] h = tt
distinct_once (n ∷ names) h = (h.0, distinct_once names h.1)

pub once_join : {X : Type 0} (xs ys : List X) → Each (λ x. Each (λ y. y ≢ x) ys) xs → Once xs → Once ys → Once (xs ++ ys)
once_join [] ys apart h g = g
once_join (x ∷ xs) ys apart h g = (All-join (λ y. y ≢ x) xs ys h.0 apart.0, once_join xs ys apart.1 h.1 g)

pub once_front : {X : Type 0} (xs ys : List X) → Once (xs ++ ys) → Once xs
once_front [] ys h = tt
once_front (x ∷ xs) ys h = (front xs h.0, once_front xs ys h.1)
  where
    front : (zs : List _) → Each (λ y. y ≢ x) (zs ++ ys) → Each (λ y. y ≢ x) zs
    front [] k = tt
    front (z ∷ zs) k = (k.0, front zs k.1)

pub once_back : {X : Type 0} (xs ys : List X) → Once (xs ++ ys) → Once ys
once_back [] ys h = h
once_back (x ∷ xs) ys h = once_back xs ys h.1

pub once_filter : {X : Type 0} (t : X → Bool) (xs : List X) → Once xs → Once (filter t xs)
once_filter t [] h = tt
once_filter t (x ∷ xs) h = by (t x) (once_filter t xs h.1)
  where
    kept : (zs : List _) → Each (λ y. y ≢ x) zs → Each (λ y. y ≢ x) (filter t zs)
    kept [] k = tt
    kept (z ∷ zs) k = choose (t z) (kept zs k.1)
      where
        choose : (b : Bool) → Each (λ y. y ≢ x) (filter t zs) → Each (λ y. y ≢ x) (if b then z ∷ filter t zs else filter t zs)
        choose true m = (k.0, m)
        choose false m = m

    by : (b : Bool) → Once (filter t xs) → Once (if b then x ∷ filter t xs else filter t xs)
    by true m = (kept xs h.0, m)
    by false m = m

pub each_filter : {X : Type 0} (t : X → Bool) (xs : List X) → Each (λ x. t x ≡ true) (filter t xs)
each_filter t [] = tt
each_filter t (x ∷ xs) = by (t x) refl (each_filter t xs)
  where
    by : (b : Bool) → t x ≡ b → Each (λ y. t y ≡ true) (filter t xs) → Each (λ y. t y ≡ true) (if b then x ∷ filter t xs else filter t xs)
    by true e m = (e, m)
    by false e m = m

pub filter_each : {X : Type 0} (P : X → Type 0) (t : X → Bool) (xs : List X) → Each P xs → Each P (filter t xs)
filter_each P t [] h = tt
filter_each P t (x ∷ xs) h = by (t x) (filter_each P t xs h.1)
  where
    by : (b : Bool) → Each P (filter t xs) → Each P (if b then x ∷ filter t xs else filter t xs)
    by true m = (h.0, m)
    by false m = m

pub once_map : {X Y : Type 0} (f : X → Y) → ((x z : X) → f x ≡ f z → x ≡ z) → (xs : List X) → Once xs → Once (map f xs)
once_map f one [] h = tt
once_map f one (x ∷ xs) h = (other xs h.0, once_map f one xs h.1)
  where
    other : (zs : List _) → Each (λ y. y ≢ x) zs → Each (λ y. y ≢ f x) (map f zs)
    other [] k = tt
    other (z ∷ zs) k = ((λ e. k.0 (one z x e)), other zs k.1)

pub once_range : (n count : ℕ) → Once (range_with_len n count)
once_range n zero = tt
once_range n (suc count) = (above (n + 1) count (omega arith), once_range (n + 1) count)
  where
    above : (m count : ℕ) → n < m → Each (λ y. y ≢ n) (range_with_len m count)
    above m zero lt = tt
    above m (suc count) lt = ((λ e. absurd (omega arith)), above (m + 1) count (omega arith))

pub each_range : (P : ℕ → Type 0) (n count : ℕ) → ((k : ℕ) → k < n + count → P k) → Each P (range_with_len n count)
each_range P n zero f = tt
each_range P n (suc count) f = (f n (omega arith), each_range P (n + 1) count (λ k lt. f k (omega arith)))

pub each_map : {X Y : Type 0} (P : Y → Type 0) (f : X → Y) (xs : List X) → Each (λ x. P (f x)) xs → Each P (map f xs)
each_map P f [] h = tt
each_map P f (x ∷ xs) h = (h.0, each_map P f xs h.1)

pub each_flat : {X Y : Type 0} (P : Y → Type 0) (f : X → List Y) (xs : List X) → Each (λ x. Each P (f x)) xs → Each P (flat_map f xs)
each_flat P f [] h = tt
each_flat P f (x ∷ xs) h = All-join P (f x) (flat_map f xs) h.0 (each_flat P f xs h.1)

-- Sections: what stands in one is of it, and nothing is of two.
pub once_flat : {X Y : Type 0} (Of : X → Y → Type 0) → ((x z : X) (y : Y) → Of x y → Of z y → x ≡ z) → (f : X → List Y) (xs : List X) → Once xs → Each (λ x. Each (Of x) (f x)) xs → Each (λ x. Once (f x)) xs → Once (flat_map f xs)
once_flat {X} {Y} Of one f [] h of own = tt
once_flat {X} {Y} Of one f (x ∷ xs) h of own = once_join (f x) (flat_map f xs) (apart (f x) of.0) own.0 (once_flat Of one f xs h.1 of.1 own.1)
  where
    other : (y : Y) → Of x y → (zs : List X) → Each (λ z. z ≢ x) zs → Each (λ z. Each (Of z) (f z)) zs → Each (λ w. w ≢ y) (flat_map f zs)
    other y k [] ne m = tt
    other y k (z ∷ zs) ne m = All-join (λ w. w ≢ y) (f z) (flat_map f zs) (All-from (Of z) (λ w. w ≢ y) (λ w q e. ne.0 (one z x y (subst (Of z) e q) k)) (f z) m.0) (other y k zs ne.1 m.1)

    apart : (ys : List Y) → Each (Of x) ys → Each (λ y. Each (λ w. w ≢ y) (flat_map f xs)) ys
    apart [] k = tt
    apart (y ∷ ys) k = (other y k.0 xs h.0 of.1, apart ys k.1)

-- Names that are distinct by the test.

differ : (x : List ℕ) (names : List (List ℕ)) → list_any (bytes_eq x) names ≡ false → Each (λ other. other ≢ x) names
differ x [] e = tt
differ x (n ∷ names) e =
    let parts = or_parts (bytes_eq x n) (list_any (bytes_eq x) names) e in
    ((λ same. both_ways (bytes_eq x n) parts.0 ((bytes_eq-Decides x n).1 (sym same))), differ x names parts.1)

pub once_names : (names : List (List ℕ)) → are_distinct names ≡ true → Once names
once_names [] e = tt
once_names (x ∷ names) e =
    let parts = and_parts (not (list_any (bytes_eq x) names)) (are_distinct names) e in
    (differ x names (not-true (list_any (bytes_eq x) names) parts.0), once_names names parts.1)

-- in such a list two places with one element are one
pub same_place : {X : Type 0} (xs : List X) (i j : ℕ) (x : X) → Once xs → slice_get xs i ≡ Some x → slice_get xs j ≡ Some x → i ≡ j
same_place [] i j x h p q = cc
same_place {X} (y ∷ xs) zero zero x h p q = refl
same_place {X} (y ∷ xs) zero (suc j) x h p q = let same : y ≡ x = cc in absurd (none xs j h.0 q same)
  where
    none : (zs : List X) (k : ℕ) → Each (λ z. z ≢ y) zs → slice_get zs k ≡ Some x → y ≡ x → ⊥
    none [] k m at e = cc
    none (z ∷ zs) zero m at e = let is : z ≡ x = cc in m.0 (is ∙ sym e)
    none (z ∷ zs) (suc k) m at e = none zs k m.1 at e
same_place {X} (y ∷ xs) (suc i) zero x h p q = let same : y ≡ x = cc in absurd (none xs i h.0 p same)
  where
    none : (zs : List X) (k : ℕ) → Each (λ z. z ≢ y) zs → slice_get zs k ≡ Some x → y ≡ x → ⊥
    none [] k m at e = cc
    none (z ∷ zs) zero m at e = let is : z ≡ x = cc in m.0 (is ∙ sym e)
    none (z ∷ zs) (suc k) m at e = none zs k m.1 at e
same_place {X} (y ∷ xs) (suc i) (suc j) x h p q = ap suc (same_place xs i j x h.1 p q)
