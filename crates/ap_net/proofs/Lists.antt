use Rattle.std.proofs.Common.{◌≡◌, ℕ, ◌+◌, ◌<◌, suc, zero, List, [], ◌∷◌, ◌++◌, length, map, Some, refl, sym, ap, inl, inr, ⊎_elim, arith, zero-add}
use Rattle.std.specs.Prelude.{◌⊎◌, slice_get}
use Rattle.std.specs.List.{AllByRecursion as Each}

-- what holds of each of two lists holds of each of both, and back
pub All-join : {X : Type 0} (P : X → Type 0) (xs ys : List X) → Each P xs → Each P ys → Each P (xs ++ ys)
All-join P [] ys h g = g
All-join P (x ∷ xs) ys h g = (h.0, All-join P xs ys h.1 g)

pub All-front : {X : Type 0} (P : X → Type 0) (xs ys : List X) → Each P (xs ++ ys) → Each P xs
All-front P [] ys h = tt
All-front P (x ∷ xs) ys h = (h.0, All-front P xs ys h.1)

pub All-back : {X : Type 0} (P : X → Type 0) (xs ys : List X) → Each P (xs ++ ys) → Each P ys
All-back P [] ys h = h
All-back P (x ∷ xs) ys h = All-back P xs ys h.1

pub All-from : {X : Type 0} (P Q : X → Type 0) → ((x : X) → P x → Q x) → (xs : List X) → Each P xs → Each Q xs
All-from P Q f [] h = tt
All-from P Q f (x ∷ xs) h = (f x h.0, All-from P Q f xs h.1)

pub All-both : {X : Type 0} (P Q R : X → Type 0) → ((x : X) → P x → Q x → R x) → (xs : List X) → Each P xs → Each Q xs → Each R xs
All-both P Q R f [] h g = tt
All-both P Q R f (x ∷ xs) h g = (f x h.0 g.0, All-both P Q R f xs h.1 g.1)

-- what holds at an index
pub All-at : {X : Type 0} (P : X → Type 0) (xs : List X) (i : ℕ) (x : X) → Each P xs → slice_get xs i ≡ Some x → P x
All-at P [] i x h e = cc
All-at P (y ∷ xs) zero x h e = let same : y ≡ x = cc in rw (← same) h.0
All-at P (y ∷ xs) (suc i) x h e = All-at P xs i x h.1 e

pub same_left : {X : Type 0} (xs ys : List X) (i : ℕ) → i < length xs → slice_get (xs ++ ys) i ≡ slice_get xs i
same_left [] ys i lt = absurd (omega arith)
same_left (x ∷ xs) ys zero lt = refl
same_left (x ∷ xs) ys (suc i) lt = same_left xs ys i (omega arith)

pub get_left : {X : Type 0} (xs ys : List X) (i : ℕ) (x : X) → slice_get xs i ≡ Some x → slice_get (xs ++ ys) i ≡ Some x
get_left [] ys i x h = cc
get_left (y ∷ xs) ys zero x h = h
get_left (y ∷ xs) ys (suc i) x h = get_left xs ys i x h

pub get_end : {X : Type 0} (xs : List X) (x : X) → slice_get (xs ++ x ∷ []) (length xs) ≡ Some x
get_end [] x = refl
get_end (y ∷ xs) x = get_end xs x

pub some_same : {X : Type 0} {x y : X} → Some x ≡ Some y → x ≡ y
some_same e = cc

-- what stands behind a list
pub get_right : {X : Type 0} (xs ys : List X) (i : ℕ) → slice_get (xs ++ ys) (length xs + i) ≡ slice_get ys i
get_right [] ys i = rw (zero-add i) refl
get_right (x ∷ xs) ys i = let next : suc (length xs) + i ≡ suc (length xs + i) = omega arith in rw next (get_right xs ys i)

-- an element of two lists joined is one of the first or one of the second
pub get_either : {X : Type 0} (xs ys : List X) (m : ℕ) (x : X) → slice_get (xs ++ ys) m ≡ Some x → (slice_get xs m ≡ Some x) ⊎ ((i : ℕ) × (m ≡ length xs + i) × (slice_get ys i ≡ Some x))
get_either [] ys m x at = inr (m, sym (zero-add m), at)
get_either (y ∷ xs) ys zero x at = inl at
get_either (y ∷ xs) ys (suc m) x at = ⊎_elim inl (λ q. inr (q.0, (let e : m ≡ length xs + q.0 = q.1 in let next : suc m ≡ suc (length xs) + q.0 = omega arith in next), q.2)) (get_either xs ys m x at)

-- what holds at each index holds of each element
pub Each-at : {X : Type 0} (P : X → Type 0) (xs : List X) → ((i : ℕ) (x : X) → slice_get xs i ≡ Some x → P x) → Each P xs
Each-at P [] f = tt
Each-at P (x ∷ xs) f = (f zero x refl, Each-at P xs (λ i y h. f (suc i) y h))

pub All-map : {X Y : Type 0} (P : Y → Type 0) (f : X → Y) (xs : List X) → Each (λ x. P (f x)) xs → Each P (map f xs)
All-map P f [] h = tt
All-map P f (x ∷ xs) h = (h.0, All-map P f xs h.1)

pub All-unmap : {X Y : Type 0} (P : Y → Type 0) (f : X → Y) (xs : List X) → Each P (map f xs) → Each (λ x. P (f x)) xs
All-unmap P f [] h = tt
All-unmap P f (x ∷ xs) h = (h.0, All-unmap P f xs h.1)

pub map-map : {X Y Z : Type 0} (f : X → Y) (g : Y → Z) (xs : List X) → map g (map f xs) ≡ map (λ x. g (f x)) xs
map-map f g [] = refl
map-map f g (x ∷ xs) = ap (λ l. g (f x) ∷ l) (map-map f g xs)
