-- Elements of lists: what holds of each holds of one that is there, and one that is there stands somewhere.
use Rattle.std.proofs.Common.{◌≡◌, ℕ, zero, suc, ◌++◌, List, [], ◌∷◌, Option, Some, None, inl, inr, refl, sym, subst, arith, flat_map}
use Rattle.std.specs.Prelude.{◌⊎◌, Any, Contains, IsSomeAnd, slice_get}
use Rattle.std.specs.List.{AllByRecursion as Each}
use Rattle.std.proofs.lemmas.List.Elements.{All-contains, All-from_recursion}
use Rattle.std.proofs.lemmas.Option.{same_Some}

pub each_contained : {X : Type 0} (P : X → Type 0) (xs : List X) (x : X) → Each P xs → Contains xs x → P x
each_contained P xs x each there = All-contains P xs x (All-from_recursion P xs each) there

pub each_maps : {X : Type 0} (P Q : X → Type 0) → ((x : X) → P x → Q x) → (xs : List X) → Each P xs → Each Q xs
each_maps P Q up [] h = tt
each_maps P Q up (x ∷ xs) h = (up x h.0, each_maps P Q up xs h.1)

pub each_get : {X : Type 0} (P : X → Type 0) (xs : List X) (i : ℕ) (x : X) → Each P xs → slice_get xs i ≡ Some x → P x
each_get P [] i x each at = absurd cc
each_get {X} P (y ∷ ys) zero x each at = let same : y ≡ x = same_Some y x at in rw same at each.0
each_get P (y ∷ ys) (suc i) x each at = each_get P ys i x each.1 at

-- what is there, of which something holds
pub some_and : {X : Type 0} (o : Option X) (P : X → Type 0) → IsSomeAnd o P → (x : X) × (o ≡ Some x) × P x
some_and None P h = absurd h
some_and (Some x) P h = (x, refl, h)

-- the element is one of these
abbrev pub In : {X : Type 0} → X → List X → Type 0
In x [] = ⊥
In x (y ∷ ys) = (x ≡ y) ⊎ In x ys

pub contains_in : {X : Type 0} (xs : List X) (x : X) → Contains xs x → In x xs
contains_in [] x (k, low, at) = absurd (omega arith)
contains_in (y ∷ ys) x (zero, low, at) = inl (sym at)
contains_in (y ∷ ys) x (suc k, low, at) = inr (contains_in ys x (k, omega arith, at))

pub in_contains : {X : Type 0} (xs : List X) (x : X) → In x xs → Contains xs x
in_contains [] x h = absurd h
in_contains (y ∷ ys) x (inl e) = (zero, omega arith, sym e)
in_contains (y ∷ ys) x (inr h) = let (k, low, at) = in_contains ys x h in (suc k, omega arith, at)

pub any_in : {X : Type 0} (P : X → Type 0) (xs : List X) → Any P xs → (x : X) × In x xs × P x
any_in P xs (k, x, low, at, p) = (x, contains_in xs x (k, low, at), p)

pub in_any : {X : Type 0} (P : X → Type 0) (xs : List X) (x : X) → In x xs → P x → Any P xs
in_any P xs x h p = let (k, low, at) = in_contains xs x h in (k, x, low, at, p)

pub in_left : {X : Type 0} (x : X) (xs ys : List X) → In x xs → In x (xs ++ ys)
in_left x [] ys h = absurd h
in_left x (y ∷ xs) ys (inl e) = inl e
in_left x (y ∷ xs) ys (inr h) = inr (in_left x xs ys h)

pub in_right : {X : Type 0} (x : X) (xs ys : List X) → In x ys → In x (xs ++ ys)
in_right x [] ys h = h
in_right x (y ∷ xs) ys h = inr (in_right x xs ys h)

pub in_append : {X : Type 0} (x : X) (xs ys : List X) → In x (xs ++ ys) → In x xs ⊎ In x ys
in_append x [] ys h = inr h
in_append x (y ∷ xs) ys (inl e) = inl (inl e)
in_append x (y ∷ xs) ys (inr h) = elim (in_append x xs ys h) [ inl a ↦ inl (inr a) | inr b ↦ inr b ]

pub in_flat_map : {X Y : Type 0} (f : X → List Y) (xs : List X) (x : X) (y : Y) → In x xs → In y (f x) → In y (flat_map f xs)
in_flat_map f [] x y h k = absurd h
in_flat_map f (z ∷ xs) x y (inl e) k = in_left y (f z) (flat_map f xs) (subst (λ w. In y (f w)) e k)
in_flat_map f (z ∷ xs) x y (inr h) k = in_right y (f z) (flat_map f xs) (in_flat_map f xs x y h k)

pub get_in : {X : Type 0} (xs : List X) (i : ℕ) (x : X) → slice_get xs i ≡ Some x → In x xs
get_in [] i x at = absurd cc
get_in (y ∷ ys) zero x at = inl (sym (same_Some y x at))
get_in (y ∷ ys) (suc i) x at = inr (get_in ys i x at)
