-- Lists of nets whose numbers are apart.
use Rattle.std.proofs.Common.{◌≡◌, ◌≢◌, ℕ, zero, suc, List, [], ◌∷◌, ◌++◌, flat_map, take, Some, inl, inr, refl, sym, ap, subst, ◌∙◌}
use Rattle.std.specs.Prelude.{slice_get}
use Rattle.std.specs.List.{AllByRecursion as Each}
use Rattle.ap_net.specs.Pending.{Among}
use Rattle.ap_net.specs.Wiring.{NoneTwice}
use Rattle.ap_net.proofs.Lists.{All-back, All-front, All-join}
use Rattle.ap_model.proofs.ListLemmas.{flat_map_both}

pub split : {X : Type 0} (xs : List X) (i : ℕ) (x : X) → slice_get xs i ≡ Some x → (rest : List X) × (xs ≡ take i xs ++ x ∷ rest)
split [] i x at = cc
split {X} (y ∷ xs) zero x at = let same : y ≡ x = cc in (xs, ap (λ (z : X). z ∷ xs) same)
split (y ∷ xs) (suc i) x at = let s = split xs i x at in (s.0, ap (λ l. y ∷ l) s.1)

-- all that is of one item stands in the middle
pub flat_middle : {X Y : Type 0} (f : X → List Y) (xs : List X) (i : ℕ) (x : X) → slice_get xs i ≡ Some x → (rest : List Y) × (flat_map f xs ≡ flat_map f (take i xs) ++ (f x ++ rest))
flat_middle f xs i x at = let s = split xs i x at in (flat_map f s.0, ap (flat_map f) s.1 ∙ flat_map_both f (take i xs) (x ∷ s.0))

pub at_among : (P : ℕ → Type 0) (xs : List ℕ) (n : ℕ) → Each P xs → Among xs n → P n
at_among P [] n h k = absurd k
at_among P (x ∷ xs) n h (inl e) = subst P e h.0
at_among P (x ∷ xs) n h (inr k) = at_among P xs n h.1 k

among_left : (xs ys : List ℕ) (n : ℕ) → Among xs n → Among (xs ++ ys) n
among_left [] ys n h = absurd h
among_left (x ∷ xs) ys n (inl e) = inl e
among_left (x ∷ xs) ys n (inr k) = inr (among_left xs ys n k)

pub twice_front : (xs ys : List ℕ) → NoneTwice (xs ++ ys) → NoneTwice xs
twice_front [] ys h = tt
twice_front (x ∷ xs) ys h = (All-front (λ m. m ≢ x) xs ys h.0, twice_front xs ys h.1)

pub twice_back : (xs ys : List ℕ) → NoneTwice (xs ++ ys) → NoneTwice ys
twice_back [] ys h = h
twice_back (x ∷ xs) ys h = twice_back xs ys h.1

-- a number of the second list is none of the first
pub others : (xs ys : List ℕ) (n : ℕ) → NoneTwice (xs ++ ys) → Among ys n → Each (λ m. m ≢ n) xs
others [] ys n h k = tt
others (x ∷ xs) ys n h k = ((λ e. at_among (λ m. m ≢ x) ys n (All-back (λ m. m ≢ x) xs ys h.0) k (sym e)), others xs ys n h.1 k)

pub others_before : (xs ys zs : List ℕ) (n : ℕ) → NoneTwice (xs ++ (ys ++ zs)) → Among ys n → Each (λ m. m ≢ n) xs
others_before xs ys zs n h k = others xs (ys ++ zs) n h (among_left ys zs n k)

pub flat_more : {X Y : Type 0} (f : X → List Y) (xs : List X) (x : X) → flat_map f (xs ++ x ∷ []) ≡ flat_map f xs ++ f x
flat_more f xs x = flat_map_both f xs (x ∷ []) ∙ ap (λ l. flat_map f xs ++ l) (plain (f x))
  where
    plain : {Z : Type 0} (zs : List Z) → zs ++ [] ≡ zs
    plain [] = refl
    plain (z ∷ zs) = ap (λ l. z ∷ l) (plain zs)

-- what holds of all holds of each list in it
pub each_in : {X Y : Type 0} (P : Y → Type 0) (f : X → List Y) (xs : List X) (i : ℕ) (x : X) → slice_get xs i ≡ Some x → Each P (flat_map f xs) → Each P (f x)
each_in P f [] i x at h = cc
each_in {X} P f (y ∷ xs) zero x at h = let same : y ≡ x = cc in subst (λ (z : X). Each P (f z)) same (All-front P (f y) (flat_map f xs) h)
each_in P f (y ∷ xs) (suc i) x at h = each_in P f xs i x at (All-back P (f y) (flat_map f xs) h)

pub each_flat_from : {X Y : Type 0} (Q : X → Type 0) (P : Y → Type 0) (f : X → List Y) → ((x : X) → Q x → Each P (f x)) → (xs : List X) → Each Q xs → Each P (flat_map f xs)
each_flat_from Q P f g [] h = tt
each_flat_from Q P f g (x ∷ xs) h = All-join P (f x) (flat_map f xs) (g x h.0) (each_flat_from Q P f g xs h.1)
