-- Elements with their numbers, of which some give something: where those come from that are given, and in which order they stand.
use Rattle.std.proofs.Common.{◌≡◌, ℕ, zero, suc, ◌+◌, ◌<◌, ◌≤◌, List, [], ◌∷◌, filter_map, Option, Some, None, inl, inr, refl, sym, ap, subst, ◌∙◌, arith}
use Rattle.std.specs.Prelude.{◌⊎◌, slice_get}
use Rattle.std.specs.List.{cons_option, enumerate_from}
use Rattle.std.proofs.lemmas.Bool.{cases_lt}
use Rattle.std.proofs.lemmas.Option.{same_Some}

module _ {X Y : Type 0} (f : ℕ → X → Option Y) where
  abbrev pub given : ℕ → List X → List Y
  given n xs = filter_map (λ (p : ℕ × X). f p.0 p.1) (enumerate_from n xs)

  -- the element at a place that gives this
  pub record IsFrom (n : ℕ) (xs : List X) (y : Y) : Type 0 where
    pub place : ℕ
    pub item : X
    pub at : slice_get xs place ≡ Some item
    pub gives : f (n + place) item ≡ Some y

  later : (n : ℕ) (x : X) (xs : List X) (y : Y) → IsFrom (n + 1) xs y → IsFrom n (x ∷ xs) y
  later n x xs y h =
      let more : n + 1 + h.place ≡ n + suc h.place = omega arith in
      record { place = suc h.place; item = h.item; at = h.at; gives = subst (λ k. f k h.item ≡ Some y) more h.gives }

  pub given_from : (n : ℕ) (xs : List X) (k : ℕ) (y : Y) → slice_get (given n xs) k ≡ Some y → IsFrom n xs y
  given_from n [] k y at = absurd cc
  given_from n (x ∷ xs) k y at = go (f n x) refl k at (λ j h. given_from (n + 1) xs j y h)
    where
      first : f n x ≡ Some y → IsFrom n (x ∷ xs) y
      first e = let none : n ≡ n + 0 = omega arith in record { place = 0; item = x; at = refl; gives = subst (λ k. f k x ≡ Some y) none e }

      go : (o : Option Y) → f n x ≡ o → (k : ℕ) → slice_get (cons_option o (given (n + 1) xs)) k ≡ Some y → ((j : ℕ) → slice_get (given (n + 1) xs) j ≡ Some y → IsFrom (n + 1) xs y) → IsFrom n (x ∷ xs) y
      go None e k at rest = later n x xs y (rest k at)
      go (Some z) e zero at rest = first (e ∙ at)
      go (Some z) e (suc j) at rest = later n x xs y (rest j at)

  -- what an element gives stands among what is given
  pub given_there : (n : ℕ) (xs : List X) (i : ℕ) (x : X) (y : Y) → slice_get xs i ≡ Some x → f (n + i) x ≡ Some y → (k : ℕ) × (slice_get (given n xs) k ≡ Some y)
  given_there n [] i x y at gives = absurd cc
  given_there n (z ∷ xs) zero x y at gives =
      let none : n + 0 ≡ n = omega arith in
      let same : z ≡ x = same_Some z x at in
      let is : f n z ≡ Some y = (λ i. f (sym none i) (same i)) ∙ gives in
      (0, ap (λ o. slice_get (cons_option o (given (n + 1) xs)) 0) is)
  given_there n (z ∷ xs) (suc i) x y at gives =
      let more : n + suc i ≡ n + 1 + i = omega arith in
      go (f n z) (given_there (n + 1) xs i x y at (subst (λ k. f k x ≡ Some y) more gives))
    where
      go : (o : Option Y) → (k : ℕ) × (slice_get (given (n + 1) xs) k ≡ Some y) → (k : ℕ) × (slice_get (cons_option o (given (n + 1) xs)) k ≡ Some y)
      go None h = h
      go (Some w) h = (suc h.0, h.1)

  -- what is given tells its number
  module _ (key : Y → ℕ) (tells : (n : ℕ) (x : X) (y : Y) → f n x ≡ Some y → key y ≡ n) where
    above : (n : ℕ) (xs : List X) (k : ℕ) (y : Y) → slice_get (given n xs) k ≡ Some y → n ≤ key y
    above n xs k y at = let h = given_from n xs k y at in let is = tells (n + h.place) h.item y h.gives in omega (arith, is)

    -- of two the first has the lower number
    pub given_rise : (n : ℕ) (xs : List X) (j k : ℕ) (one other : Y) → slice_get (given n xs) j ≡ Some one → slice_get (given n xs) k ≡ Some other → j < k → key one < key other
    given_rise n [] j k one other at there low = absurd cc
    given_rise n (x ∷ xs) j k one other at there low = go (f n x) refl j k at there low (λ a b p q lt. given_rise (n + 1) xs a b one other p q lt)
      where
        rest : List Y
        rest = given (n + 1) xs

        go : (o : Option Y) → f n x ≡ o → (j k : ℕ) → slice_get (cons_option o rest) j ≡ Some one → slice_get (cons_option o rest) k ≡ Some other → j < k
            → ((a b : ℕ) → slice_get rest a ≡ Some one → slice_get rest b ≡ Some other → a < b → key one < key other) → key one < key other
        go None e j k at there low step = step j k at there low
        go (Some z) e zero zero at there low step = absurd (omega arith)
        go (Some z) e zero (suc k) at there low step =
            let first = tells n x one (e ∙ at) in
            let next = above (n + 1) xs k other there in
            omega (arith, first, next)
        go (Some z) e (suc j) zero at there low step = absurd (omega arith)
        go (Some z) e (suc j) (suc k) at there low step = step j k at there (omega arith)

    pub given_apart : (n : ℕ) (xs : List X) (j k : ℕ) (one other : Y) → slice_get (given n xs) j ≡ Some one → slice_get (given n xs) k ≡ Some other → key one ≡ key other → j ≡ k
    given_apart n xs j k one other at there same = go (cases_lt j k) (cases_lt k j)
      where
        go : (j < k) ⊎ (k ≤ j) → (k < j) ⊎ (j ≤ k) → j ≡ k
        go (inl low) h = let less = given_rise n xs j k one other at there low in absurd (omega (arith, less, same))
        go (inr high) (inl low) = let less = given_rise n xs k j other one there at low in absurd (omega (arith, less, same))
        go (inr high) (inr low) = omega arith
