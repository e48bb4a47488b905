-- What the first place that passes a test says.
use Rattle.std.proofs.Common.{◌≡◌, ℕ, suc, ◌<◌, ◌≤◌, Bool, true, false, cond, List, [], ◌∷◌, length, get_or, Option, Some, None, refl, sym, ap, ◌∙◌, arith}
use Rattle.std.specs.Prelude.{nat_lt, not, slice_get, position, IsSomeAnd}
use Rattle.std.specs.List.{AllByRecursion as Each, position_or_len}
use Rattle.std.proofs.lemmas.Bool.{both_ways, false_from_ne_true, ltb-false, not-true}
use Rattle.std.proofs.lemmas.List.Quantifiers.{position-Some}
use Rattle.std.proofs.lemmas.List.Sums.{prefix_len_passes}
use Rattle.std.proofs.lemmas.Option.{get_or_from_slice_get, slice_get-get_or, slice_get_within}

-- a fact of what an option has
pub some_and : {X : Type 0} (P : X → Type 0) (o : Option X) (x : X) → o ≡ Some x → P x → IsSomeAnd o P
some_and P o x e h = rw e h

pub and_some : {X : Type 0} (P : X → Type 0) (o : Option X) → IsSomeAnd o P → (x : X) × (o ≡ Some x) × P x
and_some P None h = absurd h
and_some P (Some x) h = (x, refl, h)

cond_none : {X : Type 0} (b : Bool) (y : X) → cond b (Some y) None ≡ None → b ≡ false
cond_none true y e = absurd cc
cond_none false y e = refl

-- where no place is first, nothing passes
pub none_at : {X : Type 0} (p : X → Bool) (xs : List X) → position p xs ≡ None → (i : ℕ) (x : X) → slice_get xs i ≡ Some x → p x ≡ true → ⊥
none_at p xs e i x at passes =
    let all : length xs ≤ position_or_len p xs = ltb-false (position_or_len p xs) (length xs) (cond_none (nat_lt (position_or_len p xs) (length xs)) (position_or_len p xs) e) in
    let within : i < length xs = slice_get_within xs i x at in
    let early : i < position_or_len p xs = omega arith in
    let fails : p (get_or xs i x) ≡ false = not-true (p (get_or xs i x)) (prefix_len_passes (λ y. not (p y)) xs i x early) in
    both_ways (p x) (ap p (sym (get_or_from_slice_get xs i x x at)) ∙ fails) passes

-- what stands at the first place passes, and nothing before it does
pub record IsFirstAt {X : Type 0} (p : X → Bool) (xs : List X) (n : ℕ) : Type 0 where
  pub item : X
  pub is_there : slice_get xs n ≡ Some item
  pub passes : p item ≡ true
  pub before : (i : ℕ) (x : X) → i < n → slice_get xs i ≡ Some x → p x ≡ true → ⊥

pub first_at : {X : Type 0} (p : X → Bool) (xs : List X) (n : ℕ) → position p xs ≡ Some n → IsFirstAt p xs n
first_at p [] n e = absurd cc
first_at p (d ∷ ds) n e =
    let f = position-Some p (d ∷ ds) n d e in
    record {
      item = get_or (d ∷ ds) n d;
      is_there = slice_get-get_or (d ∷ ds) n d f.0;
      passes = f.1;
      before = λ i x lt at passes. both_ways (p x) (ap p (sym (get_or_from_slice_get (d ∷ ds) i x d at)) ∙ f.2 i lt) passes;
    }

pub each_at : {X : Type 0} (P : X → Type 0) (xs : List X) → ((i : ℕ) (x : X) → slice_get xs i ≡ Some x → P x) → Each P xs
each_at P [] all = tt
each_at P (x ∷ xs) all = (all 0 x refl, each_at P xs (λ i y at. all (suc i) y at))

-- where no place is first, each fails
pub none_passes : {X : Type 0} (p : X → Bool) (xs : List X) → position p xs ≡ None → Each (λ x. p x ≡ false) xs
none_passes p xs e = each_at (λ x. p x ≡ false) xs (λ i x at. false_from_ne_true (p x) (none_at p xs e i x at))

pub first_within : {X : Type 0} (p : X → Bool) (xs : List X) (n : ℕ) → position p xs ≡ Some n → n < length xs
first_within p xs n e = let first = first_at p xs n e in slice_get_within xs n first.item first.is_there
