-- Lists: what holds of each element, of each two in their order, and what filters keep.
use Rattle.std.proofs.Common.{◌≡◌, ℕ, ◌≤◌, Bool, true, false, ◌&&◌, cond, List, [], ◌∷◌, ◌++◌, filter, map, fold, max, refl, sym, ap, ◌∙◌, arith, append-nil}
use Rattle.std.proofs.lemmas.Bool.{cond-true, cond-false}
use Rattle.std.proofs.lemmas.List.Elements.{filter-append}
use Rattle.std.specs.List.{AllByRecursion as Each}

pub each_append : {X : Type 0} (P : X → Type 0) (xs ys : List X) → Each P xs → Each P ys → Each P (xs ++ ys)
each_append P [] ys p q = q
each_append P (x ∷ xs) ys p q = (p.0, each_append P xs ys p.1 q)

pub each_as : {X : Type 0} (P Q : X → Type 0) → ((x : X) → P x → Q x) → (xs : List X) → Each P xs → Each Q xs
each_as P Q f [] p = tt
each_as P Q f (x ∷ xs) p = (f x p.0, each_as P Q f xs p.1)

pub each_both : {X : Type 0} (P Q : X → Type 0) (xs : List X) → Each P xs → Each Q xs → Each (λ x. P x × Q x) xs
each_both P Q [] p q = tt
each_both P Q (x ∷ xs) p q = ((p.0, q.0), each_both P Q xs p.1 q.1)

pub each_map : {X Y : Type 0} (P : Y → Type 0) (f : X → Y) (xs : List X) → Each (λ x. P (f x)) xs → Each P (map f xs)
each_map P f [] p = tt
each_map P f (x ∷ xs) p = (p.0, each_map P f xs p.1)

pub each_always : {X : Type 0} (P : X → Type 0) → ((x : X) → P x) → (xs : List X) → Each P xs
each_always P f [] = tt
each_always P f (x ∷ xs) = (f x, each_always P f xs)

pub each_filter : {X : Type 0} (P : X → Type 0) (test : X → Bool) (xs : List X) → Each P xs → Each P (filter test xs)
each_filter P test [] p = tt
each_filter {X} P test (x ∷ xs) p = by_test (test x) (each_filter P test xs p.1)
  where
    by_test : (b : Bool) → Each P (filter test xs) → Each P (cond b (x ∷ filter test xs) (filter test xs))
    by_test true rest = (p.0, rest)
    by_test false rest = rest

-- what is so of each part of a list
pub each_left : {X : Type 0} (P : X → Type 0) (xs ys : List X) → Each P (xs ++ ys) → Each P xs
each_left P [] ys p = tt
each_left P (x ∷ xs) ys p = (p.0, each_left P xs ys p.1)

pub each_right : {X : Type 0} (P : X → Type 0) (xs ys : List X) → Each P (xs ++ ys) → Each P ys
each_right P [] ys p = p
each_right P (x ∷ xs) ys p = each_right P xs ys p.1

-- two tests that are one on each element keep the same
pub filter_same : {X : Type 0} (p q : X → Bool) (xs : List X) → Each (λ x. p x ≡ q x) xs → filter p xs ≡ filter q xs
filter_same p q [] same = refl
filter_same p q (x ∷ xs) same = let rest = filter_same p q xs same.1 in λ i. cond (same.0 i) (x ∷ rest i) (rest i)

pub filter_none : {X : Type 0} (p : X → Bool) (xs : List X) → Each (λ x. p x ≡ false) xs → filter p xs ≡ []
filter_none p [] none = refl
filter_none p (x ∷ xs) none = cond-false (p x) (x ∷ filter p xs) (filter p xs) none.0 ∙ filter_none p xs none.1

pub filter_all : {X : Type 0} (p : X → Bool) (xs : List X) → Each (λ x. p x ≡ true) xs → filter p xs ≡ xs
filter_all p [] all = refl
filter_all p (x ∷ xs) all = cond-true (p x) (x ∷ filter p xs) (filter p xs) all.0 ∙ ap (λ rest. x ∷ rest) (filter_all p xs all.1)

-- one filter after another
pub filter_twice : {X : Type 0} (p q : X → Bool) (xs : List X) → filter p (filter q xs) ≡ filter (λ x. p x && q x) xs
filter_twice p q [] = refl
filter_twice {X} p q (x ∷ xs) = by_tests (q x) (p x) refl (filter_twice p q xs)
  where
    by_tests : (b c : Bool) → p x ≡ c → filter p (filter q xs) ≡ filter (λ x. p x && q x) xs
        → filter p (cond b (x ∷ filter q xs) (filter q xs)) ≡ cond (c && b) (x ∷ filter (λ x. p x && q x) xs) (filter (λ x. p x && q x) xs)
    by_tests true true e rest = cond-true (p x) (x ∷ filter p (filter q xs)) (filter p (filter q xs)) e ∙ ap (λ ys. x ∷ ys) rest
    by_tests true false e rest = cond-false (p x) (x ∷ filter p (filter q xs)) (filter p (filter q xs)) e ∙ rest
    by_tests false true e rest = rest
    by_tests false false e rest = rest

-- A list of three parts. Where a test keeps nothing of the last, and of the middle one all that another keeps, it keeps that beyond what is
-- kept of the first.
pub filter_parts : {X : Type 0} (p q r : X → Bool) (before here after : List X) → Each (λ x. p x ≡ q x) before → Each (λ x. p x ≡ r x) here → Each (λ x. p x ≡ false) after
    → filter p (before ++ (here ++ after)) ≡ filter q before ++ filter r here
filter_parts p q r before here after one two none =
    filter-append p before (here ++ after)
    ∙ (λ i. filter_same p q before one i ++ filter-append p here after i)
    ∙ (λ i. filter q before ++ (filter_same p r here two i ++ filter_none p after none i))
    ∙ ap (λ ys. filter q before ++ ys) (append-nil (filter r here))

-- Each two elements in their order.

abbrev pub EachPair : {X : Type 0} → (X → X → Type 0) → List X → Type 0
EachPair R [] = Unit {0}
EachPair R (x ∷ xs) = Each (R x) xs × EachPair R xs

pub pair_append : {X : Type 0} (R : X → X → Type 0) (xs ys : List X) → EachPair R xs → EachPair R ys → Each (λ x. Each (R x) ys) xs → EachPair R (xs ++ ys)
pair_append R [] ys one two across = two
pair_append R (x ∷ xs) ys one two across = (each_append (R x) xs ys one.0 across.0, pair_append R xs ys one.1 two across.1)

pub pair_as : {X : Type 0} (P : X → Type 0) (R S : X → X → Type 0) → ((x y : X) → P x → P y → R x y → S x y) → (xs : List X) → Each P xs → EachPair R xs → EachPair S xs
pair_as P R S f [] each pairs = tt
pair_as P R S f (x ∷ xs) each pairs = (each_as (λ y. P y × R x y) (S x) (λ y h. f x y each.0 h.0 h.1) xs (each_both P (R x) xs each.1 pairs.0), pair_as P R S f xs each.1 pairs.1)

pub pair_always : {X : Type 0} (P : X → Type 0) (R : X → X → Type 0) → ((x y : X) → P x → P y → R x y) → (xs : List X) → Each P xs → EachPair R xs
pair_always P R f [] each = tt
pair_always P R f (x ∷ xs) each = (each_as P (R x) (λ y h. f x y each.0 h) xs each.1, pair_always P R f xs each.1)

-- where nothing that a test keeps stands after what it leaves out, it keeps a beginning
pub keeps_beginning : {X : Type 0} (p : X → Bool) (xs : List X) → EachPair (λ x y. p x ≡ false → p y ≡ false) xs → (rest : List X) × (xs ≡ filter p xs ++ rest)
keeps_beginning p [] pairs = ([], refl)
keeps_beginning {X} p (x ∷ xs) pairs = by_test (p x) refl (keeps_beginning p xs pairs.1)
  where
    by_test : (b : Bool) → p x ≡ b → (rest : List X) × (xs ≡ filter p xs ++ rest) → (rest : List X) × (x ∷ xs ≡ cond b (x ∷ filter p xs) (filter p xs) ++ rest)
    by_test true e rest = (rest.0, ap (λ ys. x ∷ ys) rest.1)
    by_test false e rest =
        let none = filter_none p xs (each_as (λ y. p x ≡ false → p y ≡ false) (λ y. p y ≡ false) (λ y h. h e) xs pairs.0) in
        (x ∷ xs, ap (λ ys. ys ++ x ∷ xs) (sym none))

-- the greatest of some numbers is one of them that no other exceeds
from_most : (xs : List ℕ) (a m : ℕ) → Each (λ x. x ≤ m) xs → a ≤ m → fold max a xs ≤ m
from_most [] a m each le = le
from_most (x ∷ xs) a m each le = from_most xs (max a x) m each.1 (let h = each.0 in omega arith)

grows : (xs : List ℕ) (a : ℕ) → a ≤ fold max a xs
grows [] a = omega arith
grows (x ∷ xs) a = let h = grows xs (max a x) in omega arith

pub greatest_of : (before : List ℕ) (m : ℕ) (after : List ℕ) → Each (λ x. x ≤ m) (before ++ m ∷ after) → fold max 0 (before ++ m ∷ after) ≡ m
greatest_of before m after each =
    let high = from_most (before ++ m ∷ after) 0 m each (omega arith) in
    let low = reached before 0 in
    omega arith
  where
    reached : (xs : List ℕ) (a : ℕ) → m ≤ fold max a (xs ++ m ∷ after)
    reached [] a = let h = grows after (max a m) in omega arith
    reached (x ∷ xs) a = reached xs (max a x)
