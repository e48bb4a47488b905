-- Loops that go over a list with its places and add what each element gives.
use Rattle.std.proofs.Common.{◌≡◌, ℕ, zero, suc, ◌+◌, ◌<◌, ◌≤◌, List, [], ◌∷◌, ◌++◌, length, get_or, drop, Option, Some, refl, sym, ap, subst, ◌∙◌, arith, append_assoc, append-nil, add-one, drop-cons, flat_map, filter_map, option_to_list, slice_get}
use Rattle.std.specs.List.{enumerate_from}
use Rattle.std.proofs.Math.Seq.{drop-nil}
use Rattle.std.proofs.lemmas.Option.{same_Some}
use Rattle.ap_desc.proofs.LocalWidths.{cons_or_not}

-- the rest of a list begins with the element at the place, and is empty at the end
pub rest_at : {X : Type 0} (xs : List X) (i : ℕ) (x : X) → i < length xs → x ≡ get_or xs i x → drop i xs ≡ x ∷ drop (i + 1) xs
rest_at xs i x low is = drop-cons xs i x low ∙ ap (λ y. y ∷ drop (suc i) xs) (sym is) ∙ ap (λ k. x ∷ drop k xs) (sym (add-one i))

pub none_left : {X : Type 0} (xs : List X) (i : ℕ) → length xs ≤ i → drop i xs ≡ []
none_left [] i past = drop-nil i
none_left (x ∷ xs) zero past = absurd (omega arith)
none_left (x ∷ xs) (suc i) past = none_left xs i (omega arith)

-- what is due is what was added and what the rest of the elements gives
pub flat_step : {X Y : Type 0} (f : ℕ × X → List Y) (xs : List X) (i : ℕ) (x : X) (old due : List Y) → i < length xs → x ≡ get_or xs i x
    → due ≡ old ++ flat_map f (enumerate_from i (drop i xs)) → due ≡ (old ++ f (i, x)) ++ flat_map f (enumerate_from (i + 1) (drop (i + 1) xs))
flat_step f xs i x old due low is h =
    let rest = flat_map f (enumerate_from (i + 1) (drop (i + 1) xs)) in
    h ∙ ap (λ ys. old ++ flat_map f (enumerate_from i ys)) (rest_at xs i x low is) ∙ sym (append_assoc old (f (i, x)) rest)

pub flat_end : {X Y : Type 0} (f : ℕ × X → List Y) (xs : List X) (i : ℕ) (old due : List Y) → length xs ≤ i → due ≡ old ++ flat_map f (enumerate_from i (drop i xs)) → due ≡ old
flat_end f xs i old due past h = h ∙ ap (λ ys. old ++ flat_map f (enumerate_from i ys)) (none_left xs i past) ∙ append-nil old

pub filter_step : {X Y : Type 0} (f : ℕ × X → Option Y) (xs : List X) (i : ℕ) (x : X) (old due : List Y) → i < length xs → x ≡ get_or xs i x
    → due ≡ old ++ filter_map f (enumerate_from i (drop i xs)) → due ≡ (old ++ option_to_list (f (i, x))) ++ filter_map f (enumerate_from (i + 1) (drop (i + 1) xs))
filter_step f xs i x old due low is h =
    let rest = filter_map f (enumerate_from (i + 1) (drop (i + 1) xs)) in
    h ∙ ap (λ ys. old ++ filter_map f (enumerate_from i ys)) (rest_at xs i x low is) ∙ ap (λ ys. old ++ ys) (cons_or_not (f (i, x)) rest) ∙ sym (append_assoc old (option_to_list (f (i, x))) rest)

pub filter_end : {X Y : Type 0} (f : ℕ × X → Option Y) (xs : List X) (i : ℕ) (old due : List Y) → length xs ≤ i → due ≡ old ++ filter_map f (enumerate_from i (drop i xs)) → due ≡ old
filter_end f xs i old due past h = h ∙ ap (λ ys. old ++ filter_map f (enumerate_from i ys)) (none_left xs i past) ∙ append-nil old

-- what holds of the elements of a list and of one more holds of those of the longer list
pub get_pushed : {X : Type 0} (P : ℕ → X → Type 0) (xs : List X) (x : X) → ((i : ℕ) (y : X) → slice_get xs i ≡ Some y → P i y) → P (length xs) x
    → (i : ℕ) (y : X) → slice_get (xs ++ x ∷ []) i ≡ Some y → P i y
get_pushed P [] x all here zero y at = subst (P 0) (same_Some x y at) here
get_pushed P [] x all here (suc i) y at = absurd cc
get_pushed P (z ∷ xs) x all here zero y at = all zero y at
get_pushed P (z ∷ xs) x all here (suc i) y at = get_pushed (λ k. P (suc k)) xs x (λ k w e. all (suc k) w e) here i y at
