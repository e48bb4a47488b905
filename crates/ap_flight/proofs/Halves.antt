-- The two halves of a list of what is left.
use Rattle.std.proofs.Common.{◌≡◌, ℕ, zero, suc, ◌-◌, ◌≤◌, ◌||◌, Bool, List, [], ◌∷◌, ◌++◌, length, take, drop, refl, sym, ap, subst, ◌∙◌, arith, inl, inr}
use Rattle.std.specs.List.{AllByRecursion as Each, list_any}
use Rattle.std.proofs.lemmas.List.{take-append-drop}
use Rattle.std.proofs.lemmas.List.Folds.{list_any-append}
use Rattle.ap_net.specs.Draft.{Draft}
use Rattle.ap_net.specs.Pending.{Among, IsFrom}
use Rattle.ap_flight.specs.declared.entry.Leaving.{Leaving}
use Rattle.ap_flight.specs.Entries.{leaving_numbers}

pub Each-take : {X : Type 0} (P : X → Type 0) (n : ℕ) (xs : List X) → Each P xs → Each P (take n xs)
Each-take P zero xs h = tt
Each-take P (suc n) [] h = tt
Each-take P (suc n) (x ∷ xs) h = (h.0, Each-take P n xs h.1)

pub Each-drop : {X : Type 0} (P : X → Type 0) (n : ℕ) (xs : List X) → Each P xs → Each P (drop n xs)
Each-drop P zero xs h = h
Each-drop P (suc n) [] h = tt
Each-drop P (suc n) (x ∷ xs) h = Each-drop P n xs h.1

pub Each-weaker : {X : Type 0} (P Q : X → Type 0) → ((x : X) → P x → Q x) → (xs : List X) → Each P xs → Each Q xs
Each-weaker P Q f [] h = tt
Each-weaker P Q f (x ∷ xs) h = (f x h.0, Each-weaker P Q f xs h.1)

take_none : {X : Type 0} (m : ℕ) (xs : List X) → xs ≡ [] → take m xs ≡ []
take_none zero xs e = refl
take_none (suc m) [] e = refl
take_none (suc m) (x ∷ xs) e = cc

pub second_half : {X : Type 0} (n : ℕ) (xs : List X) → take (length xs - n) (drop n xs) ≡ drop n xs
second_half zero xs = ap (λ n. take n xs) (let e : length xs - 0 ≡ length xs = omega arith in e) ∙ all xs
  where
    all : {X : Type 0} (xs : List X) → take (length xs) xs ≡ xs
    all [] = refl
    all (x ∷ xs) = ap (λ l. x ∷ l) (all xs)
second_half {X} (suc n) [] = take_none (length {A = X} [] - suc n) [] refl
second_half (suc n) (x ∷ xs) = ap (λ m. take m (drop n xs)) (let e : length (x ∷ xs) - suc n ≡ length xs - n = omega arith in e) ∙ second_half n xs

pub halves : {X : Type 0} (n : ℕ) (xs : List X) → take n xs ++ take (length xs - n) (drop n xs) ≡ xs
halves n xs = ap (λ l. take n xs ++ l) (second_half n xs) ∙ take-append-drop n xs

pub any_halves : {X : Type 0} (p : X → Bool) (n : ℕ) (xs : List X) → list_any p xs ≡ (list_any p (take n xs) || list_any p (take (length xs - n) (drop n xs)))
any_halves p n xs = ap (list_any p) (sym (halves n xs)) ∙ list_any-append p (take n xs) (take (length xs - n) (drop n xs))

pub first_length : {X : Type 0} (n : ℕ) (xs : List X) → n ≤ length xs → length (take n xs) ≡ n
first_length zero xs le = refl
first_length (suc n) [] le = absurd (omega arith)
first_length (suc n) (x ∷ xs) le = ap suc (first_length n xs (omega arith))

pub second_length : {X : Type 0} (n : ℕ) (xs : List X) → length (take (length xs - n) (drop n xs)) ≡ length xs - n
second_length n xs = ap length (second_half n xs) ∙ dropped n xs
  where
    dropped : {X : Type 0} (n : ℕ) (xs : List X) → length (drop n xs) ≡ length xs - n
    dropped zero xs = let e : length xs ≡ length xs - 0 = omega arith in e
    dropped (suc n) [] = let e : 0 ≡ 0 - suc n = omega arith in e
    dropped (suc n) (x ∷ xs) = dropped n xs ∙ (let e : length xs - n ≡ length (x ∷ xs) - suc n = omega arith in e)

-- Numbers of nets.

among_more : (a b : ℕ) (xs ys : List ℕ) → Each (Among ys) xs → Each (Among (a ∷ b ∷ ys)) xs
among_more a b xs ys h = Each-weaker (Among ys) (Among (a ∷ b ∷ ys)) (λ n m. inr (inr m)) xs h

pub among_take : (n : ℕ) (list : List Leaving) → Each (Among (leaving_numbers list)) (leaving_numbers (take n list))
among_take zero list = tt
among_take (suc n) [] = tt
among_take (suc n) (l ∷ list) = (inl refl, (inr (inl refl), among_more l.cond.number l.net.number (leaving_numbers (take n list)) (leaving_numbers list) (among_take n list)))

among_drop : (n : ℕ) (list : List Leaving) → Each (Among (leaving_numbers list)) (leaving_numbers (drop n list))
among_drop zero list = all (leaving_numbers list)
  where
    all : (xs : List ℕ) → Each (Among xs) xs
    all [] = tt
    all (x ∷ xs) = (inl refl, Each-weaker (Among xs) (Among (x ∷ xs)) (λ n m. inr m) xs (all xs))
among_drop (suc n) [] = tt
among_drop (suc n) (l ∷ list) = among_more l.cond.number l.net.number (leaving_numbers (drop n list)) (leaving_numbers list) (among_drop n list)

pub among_second : (n : ℕ) (list : List Leaving) → Each (Among (leaving_numbers list)) (leaving_numbers (take (length list - n) (drop n list)))
among_second n list = subst (λ l. Each (Among (leaving_numbers list)) (leaving_numbers l)) (sym (second_half n list)) (among_drop n list)

-- what is among some nets is from them
pub from_among : (from : List ℕ) (a b : Draft) (more : List ℕ) → Each (Among from) more → Each (IsFrom from a b) more
from_among from a b more h = Each-weaker (Among from) (IsFrom from a b) (λ n m. inl m) more h
