-- Elements of lists at their places.
use Rattle.std.proofs.Common.{◌≡◌, ℕ, zero, suc, ◌<◌, ◌≤◌, Bool, true, false, cond, List, [], ◌∷◌, length, get_or, Option, Some, None, inl, inr, refl, sym, ap, ◌∙◌, arith}
use Rattle.std.specs.Prelude.{Contains, IsSomeAnd, nat_lt, not, position, slice_get}
use Rattle.std.specs.List.{AllByRecursion as Each, list_all, list_any, position_or_len}
use Rattle.std.proofs.lemmas.Bool.{and_parts, both_ways, ltb-false, not-true, or_cases, or_left, or_right}
use Rattle.std.proofs.lemmas.List.Quantifiers.{position-Some}
use Rattle.std.proofs.lemmas.List.Sums.{prefix_len_passes}
use Rattle.std.proofs.lemmas.Option.{same_Some, slice_get-get_or, slice_get_within, get_or_from_slice_get}

-- what holds of each holds of one at a place
pub each_get : {X : Type 0} (P : X → Type 0) (xs : List X) (i : ℕ) (x : X) → Each P xs → slice_get xs i ≡ Some x → P x
each_get P [] i x each at = absurd cc
each_get {X} P (y ∷ ys) zero x each at = let same : y ≡ x = same_Some y x at in rw same at each.0
each_get P (y ∷ ys) (suc i) x each at = each_get P ys i x each.1 at

pub each_of : {X : Type 0} (P : X → Type 0) (xs : List X) → ((i : ℕ) (x : X) → slice_get xs i ≡ Some x → P x) → Each P xs
each_of P [] all = tt
each_of P (x ∷ xs) all = (all 0 x refl, each_of P xs (λ i y at. all (suc i) y at))

-- one that passes where all do
pub passes_at : {X : Type 0} (test : X → Bool) (xs : List X) → list_all test xs ≡ true → (i : ℕ) (x : X) → slice_get xs i ≡ Some x → test x ≡ true
passes_at test [] e i x at = absurd cc
passes_at test (y ∷ ys) e zero x at = let here : y ≡ x = same_Some y x at in rw here at (and_parts (test y) (list_all test ys) e).0
passes_at test (y ∷ ys) e (suc i) x at = passes_at test ys (and_parts (test y) (list_all test ys) e).1 i x at

-- where some element passes, one at a place does
pub any_at : {X : Type 0} (test : X → Bool) (xs : List X) → list_any test xs ≡ true → (i : ℕ) × (x : X) × (slice_get xs i ≡ Some x) × (test x ≡ true)
any_at test [] e = absurd cc
any_at test (x ∷ xs) e = elim (or_cases (test x) (list_any test xs) e) [
  | inl here ↦ (zero, x, refl, here)
  | inr later ↦ let (i, y, at, passes) = any_at test xs later in (suc i, y, at, passes)
]

pub at_any : {X : Type 0} (test : X → Bool) (xs : List X) (i : ℕ) (x : X) → slice_get xs i ≡ Some x → test x ≡ true → list_any test xs ≡ true
at_any test [] i x at passes = absurd cc
at_any test (y ∷ ys) zero x at passes = let here : y ≡ x = same_Some y x at in or_left (test y) (list_any test ys) (ap test here ∙ passes)
at_any test (y ∷ ys) (suc i) x at passes = or_right (test y) (list_any test ys) (at_any test ys i x at passes)

-- places of what a list contains
pub place_of : {X : Type 0} (xs : List X) (x : X) → Contains xs x → (i : ℕ) × (slice_get xs i ≡ Some x)
place_of xs x (i, low, at) = (i, slice_get-get_or xs i x low ∙ ap Some at)

pub contains_at : {X : Type 0} (xs : List X) (i : ℕ) (x : X) → slice_get xs i ≡ Some x → Contains xs x
contains_at xs i x at = (i, slice_get_within xs i x at, get_or_from_slice_get xs i x x at)

pub some_and : {X : Type 0} (P : X → Type 0) (o : Option X) → IsSomeAnd o P → (x : X) × (o ≡ Some x) × P x
some_and P None h = absurd h
some_and P (Some x) h = (x, refl, h)

-- The first place that passes a test.

cond_none : {A : Type 0} (b : Bool) (y : A) → cond b (Some y) None ≡ None → b ≡ false
cond_none true y e = absurd cc
cond_none false y e = refl

pub none_at : {X : Type 0} (p : X → Bool) (xs : List X) → position p xs ≡ None → (i : ℕ) (x : X) → slice_get xs i ≡ Some x → p x ≡ true → ⊥
none_at p xs e i x at passes =
    let all : length xs ≤ position_or_len p xs = ltb-false (position_or_len p xs) (length xs) (cond_none (nat_lt (position_or_len p xs) (length xs)) (position_or_len p xs) e) in
    let within : i < length xs = slice_get_within xs i x at in
    let early : i < position_or_len p xs = omega arith in
    let fails : p (get_or xs i x) ≡ false = not-true (p (get_or xs i x)) (prefix_len_passes (λ y. not (p y)) xs i x early) in
    both_ways (p x) (ap p (sym (get_or_from_slice_get xs i x x at)) ∙ fails) passes

pub record IsFirstAt {X : Type 0} (p : X → Bool) (xs : List X) (n : ℕ) : Type 0 where
  pub item : X
  pub is_there : slice_get xs n ≡ Some item
  pub passes : p item ≡ true
  pub before : (i : ℕ) (x : X) → i < n → slice_get xs i ≡ Some x → p x ≡ true → ⊥

pub first_at : {X : Type 0} (p : X → Bool) (xs : List X) (n : ℕ) → position p xs ≡ Some n → IsFirstAt p xs n
first_at p [] n e = absurd cc
first_at p (d ∷ ds) n e =
    let f = position-Some p (d ∷ ds) n d e in
    record {
      item = get_or (d ∷ ds) n d;
      is_there = slice_get-get_or (d ∷ ds) n d f.0;
      passes = f.1;
      before = λ i x lt at passes. both_ways (p x) (ap p (sym (get_or_from_slice_get (d ∷ ds) i x d at)) ∙ f.2 i lt) passes;
    }

-- what a loop reads of a list
pub item_at : {X : Type 0} (ys xs : List X) (i : ℕ) (x : X) → ys ≡ xs → i < length ys → x ≡ get_or ys i x → slice_get xs i ≡ Some x
item_at ys xs i x same low is = ap (λ zs. slice_get zs i) (sym same) ∙ slice_get-get_or ys i x low ∙ ap Some (sym is)
