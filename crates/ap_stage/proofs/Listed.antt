-- Lists and what stands in them.
use Rattle.std.proofs.Common.{◌≡◌, ℕ, zero, suc, Bool, true, false, cond, List, [], ◌∷◌, ◌++◌, length, Some, inl, inr, refl, subst, ⊎_elim}
use Rattle.std.specs.Prelude.{◌⊎◌, find, slice_get}
use Rattle.std.specs.List.{AllByRecursion as Each}
use Rattle.std.proofs.lemmas.Option.{same_Some}
use Rattle.ap_net.specs.Pending.{Among}

pub get_last : {X : Type 0} (xs : List X) (x : X) → slice_get (xs ++ x ∷ []) (length xs) ≡ Some x
get_last [] x = refl
get_last (y ∷ xs) x = get_last xs x

pub each_at : {X : Type 0} (P : X → Type 0) (xs : List X) (place : ℕ) (x : X) → Each P xs → slice_get xs place ≡ Some x → P x
each_at P [] place x each at = absurd cc
each_at P (y ∷ xs) zero x each at = subst P (same_Some y x at) each.0
each_at P (y ∷ xs) (suc place) x each at = each_at P xs place x each.1 at

pub each_among : (P : ℕ → Type 0) (from : List ℕ) → Each P from → (n : ℕ) → Among from n → P n
each_among P [] each n h = absurd h
each_among P (m ∷ from) each n (inl e) = subst P e each.0
each_among P (m ∷ from) each n (inr h) = each_among P from each.1 n h

pub among_left : (xs ys : List ℕ) (n : ℕ) → Among xs n → Among (xs ++ ys) n
among_left [] ys n h = absurd h
among_left (x ∷ xs) ys n (inl e) = inl e
among_left (x ∷ xs) ys n (inr h) = inr (among_left xs ys n h)

pub among_right : (xs ys : List ℕ) (n : ℕ) → Among ys n → Among (xs ++ ys) n
among_right [] ys n h = h
among_right (x ∷ xs) ys n h = inr (among_right xs ys n h)

pub among_split : (xs ys : List ℕ) (n : ℕ) → Among (xs ++ ys) n → Among xs n ⊎ Among ys n
among_split [] ys n h = inr h
among_split (x ∷ xs) ys n (inl e) = inl (inl e)
among_split (x ∷ xs) ys n (inr h) = ⊎_elim (λ l. inl (inr l)) inr (among_split xs ys n h)

pub each_left : {X : Type 0} (P : X → Type 0) (xs ys : List X) → Each P (xs ++ ys) → Each P xs
each_left P [] ys h = tt
each_left P (x ∷ xs) ys h = (h.0, each_left P xs ys h.1)

pub each_right : {X : Type 0} (P : X → Type 0) (xs ys : List X) → Each P (xs ++ ys) → Each P ys
each_right P [] ys h = h
each_right P (x ∷ xs) ys h = each_right P xs ys h.1

pub each_both : {X : Type 0} (P : X → Type 0) (xs ys : List X) → Each P xs → Each P ys → Each P (xs ++ ys)
each_both P [] ys h k = k
each_both P (x ∷ xs) ys h k = (h.0, each_both P xs ys h.1 k)

pub each_by_place : {X : Type 0} (P : X → Type 0) (xs : List X) → ((k : ℕ) (x : X) → slice_get xs k ≡ Some x → P x) → Each P xs
each_by_place P [] all = tt
each_by_place P (x ∷ xs) all = (all 0 x refl, each_by_place P xs (λ k y at. all (suc k) y at))

-- the first that passes a test
pub each_found : {X : Type 0} (P : X → Type 0) (test : X → Bool) (xs : List X) (x : X) → find test xs ≡ Some x → Each P xs → P x
each_found P test [] x is each = absurd cc
each_found {X} P test (y ∷ xs) x is each = go (test y) is (λ later. each_found P test xs x later each.1)
  where
    go : (b : Bool) → cond b (Some y) (find test xs) ≡ Some x → (find test xs ≡ Some x → P x) → P x
    go true is later = subst P (same_Some y x is) each.0
    go false is later = later is
