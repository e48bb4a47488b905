-- Places in lists that are joined from lists.
use Rattle.std.proofs.Common.{◌≡◌, ℕ, zero, suc, List, [], ◌∷◌, ◌++◌, Some, inl, inr, refl, ap, ◌∙◌, flat_map}
use Rattle.std.specs.Prelude.{◌⊎◌, slice_get}

pub get_left : {X : Type 0} (xs ys : List X) (i : ℕ) (x : X) → slice_get xs i ≡ Some x → slice_get (xs ++ ys) i ≡ Some x
get_left [] ys i x at = absurd cc
get_left (z ∷ xs) ys zero x at = at
get_left (z ∷ xs) ys (suc i) x at = get_left xs ys i x at

pub get_right : {X : Type 0} (xs ys : List X) (i : ℕ) (x : X) → slice_get ys i ≡ Some x → (j : ℕ) × (slice_get (xs ++ ys) j ≡ Some x)
get_right [] ys i x at = (i, at)
get_right (z ∷ xs) ys i x at = let (j, there) = get_right xs ys i x at in (suc j, there)

pub get_either : {X : Type 0} (xs ys : List X) (j : ℕ) (x : X) → slice_get (xs ++ ys) j ≡ Some x → ((i : ℕ) × (slice_get xs i ≡ Some x)) ⊎ ((i : ℕ) × (slice_get ys i ≡ Some x))
get_either [] ys j x at = inr (j, at)
get_either (z ∷ xs) ys zero x at = inl (zero, at)
get_either (z ∷ xs) ys (suc j) x at = elim (get_either xs ys j x at) [ inl found ↦ (let (i, there) = found in inl (suc i, there)) | inr found ↦ inr found ]

pub flat_at : {X Y : Type 0} (f : X → List Y) (xs : List X) (i : ℕ) (x : X) (k : ℕ) (y : Y) → slice_get xs i ≡ Some x → slice_get (f x) k ≡ Some y → (j : ℕ) × (slice_get (flat_map f xs) j ≡ Some y)
flat_at f [] i x k y at there = absurd cc
flat_at {X} f (z ∷ xs) zero x k y at there = let same : z ≡ x = cc in (k, get_left (f z) (flat_map f xs) k y (ap (λ w. slice_get (f w) k) same ∙ there))
flat_at f (z ∷ xs) (suc i) x k y at there = let (j, found) = flat_at f xs i x k y at there in get_right (f z) (flat_map f xs) j y found

pub record StandsIn {X Y : Type 0} (f : X → List Y) (xs : List X) (y : Y) : Type 0 where
  pub number : ℕ
  pub item : X
  pub is_item : slice_get xs number ≡ Some item
  pub place : ℕ
  pub is_there : slice_get (f item) place ≡ Some y

later_in : {X Y : Type 0} (f : X → List Y) (z : X) (xs : List X) (y : Y) → StandsIn f xs y → StandsIn f (z ∷ xs) y
later_in f z xs y s = record { number = suc s.number; item = s.item; is_item = s.is_item; place = s.place; is_there = s.is_there }

pub flat_from : {X Y : Type 0} (f : X → List Y) (xs : List X) (j : ℕ) (y : Y) → slice_get (flat_map f xs) j ≡ Some y → StandsIn f xs y
flat_from f [] j y at = absurd cc
flat_from f (z ∷ xs) j y at = elim (get_either (f z) (flat_map f xs) j y at) [
  | inl found ↦ (let (i, there) = found in record { number = 0; item = z; is_item = refl; place = i; is_there = there })
  | inr found ↦ (let (i, there) = found in later_in f z xs y (flat_from f xs i y there))
]
