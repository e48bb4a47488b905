-- Lists: elements at places, and lists beside each other.
use Rattle.std.proofs.Common.{◌≡◌, ℕ, zero, suc, ◌<◌, List, [], ◌∷◌, ◌++◌, length, flat_map, Some, refl, sym, ap, subst, arith, inl, inr, ⊎_elim}
use Rattle.std.specs.Prelude.{◌⊎◌, Contains, slice_get}
use Rattle.std.specs.List.{AllByRecursion as Each}
use Rattle.ap_net.proofs.Lists.{All-back, All-front, All-join}
use Rattle.ap_ctl.specs.Lists.{EachPair}
use Rattle.ap_ctl.proofs.Firing.{contains_first, contains_later}

-- an element of a list with one more
pub one_more : {X : Type 0} (xs : List X) (y : X) (i : ℕ) (x : X) → slice_get (xs ++ y ∷ []) i ≡ Some x → (slice_get xs i ≡ Some x) ⊎ ((i ≡ length xs) × (x ≡ y))
one_more [] y zero x at = let same : y ≡ x = cc in inr (refl, sym same)
one_more [] y (suc i) x at = cc
one_more (z ∷ xs) y zero x at = inl at
one_more (z ∷ xs) y (suc i) x at = ⊎_elim inl (λ q. inr (ap suc q.0, q.1)) (one_more xs y i x at)

-- what stands at a place
pub there : {X : Type 0} (xs : List X) (i : ℕ) → i < length xs → (x : X) × (slice_get xs i ≡ Some x)
there [] i lt = absurd (omega arith)
there (x ∷ xs) zero lt = (x, refl)
there (x ∷ xs) (suc i) lt = there xs i (omega arith)

-- what holds of all lists together, holds of one, and the other way round
pub each_of_one : {X Y : Type 0} (P : Y → Type 0) (f : X → List Y) (xs : List X) → Each P (flat_map f xs) → (k : ℕ) (x : X) → slice_get xs k ≡ Some x → Each P (f x)
each_of_one P f [] h k x at = cc
each_of_one P f (y ∷ xs) h zero x at = let same : y ≡ x = cc in subst (λ z. Each P (f z)) same (All-front P (f y) (flat_map f xs) h)
each_of_one P f (y ∷ xs) h (suc k) x at = each_of_one P f xs (All-back P (f y) (flat_map f xs) h) k x at

pub each_of_all : {X Y : Type 0} (P : Y → Type 0) (f : X → List Y) (xs : List X) → ((k : ℕ) (x : X) → slice_get xs k ≡ Some x → Each P (f x)) → Each P (flat_map f xs)
each_of_all P f [] h = tt
each_of_all P f (y ∷ xs) h = All-join P (f y) (flat_map f xs) (h 0 y refl) (each_of_all P f xs (λ k x at. h (suc k) x at))

-- of elements beside each other, where the first is in the list
pub pairs_within : {X Y : Type 0} (P Q : X → Y → Type 0) (xs : List X) (ys : List Y) → ((x : X) (y : Y) → Contains xs x → P x y → Q x y) → EachPair P xs ys → EachPair Q xs ys
pairs_within P Q [] [] f h = tt
pairs_within P Q [] (y ∷ ys) f h = absurd h
pairs_within P Q (x ∷ xs) [] f h = absurd h
pairs_within P Q (x ∷ xs) (y ∷ ys) f h = (f x y (contains_first x xs) h.0, pairs_within P Q xs ys (λ z w k. f z w (contains_later x xs z k)) h.1)

-- what stands beside the element at a place
pub beside : {X Y : Type 0} (P : X → Y → Type 0) (xs : List X) (ys : List Y) → EachPair P xs ys → (k : ℕ) (y : Y) → slice_get ys k ≡ Some y → (x : X) × (slice_get xs k ≡ Some x) × P x y
beside P [] [] h k y at = cc
beside P [] (z ∷ ys) h k y at = absurd h
beside P (x ∷ xs) [] h k y at = absurd h
beside P (x ∷ xs) (z ∷ ys) h zero y at = let same : z ≡ y = cc in (x, refl, subst (P x) same h.0)
beside P (x ∷ xs) (z ∷ ys) h (suc k) y at = beside P xs ys h.1 k y at

-- what holds of each element holds of one that the list contains
pub each_contained : {X : Type 0} (P : X → Type 0) (xs : List X) (x : X) → Each P xs → Contains xs x → P x
each_contained P [] x h (k, low, at) = absurd (omega (arith, low))
each_contained P (y ∷ xs) x h (zero, low, at) = subst P at h.0
each_contained P (y ∷ xs) x h (suc k, low, at) = each_contained P xs x h.1 (k, omega (arith, low), at)
