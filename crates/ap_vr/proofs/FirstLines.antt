-- The first of some lines at which a test holds, as far as a loop has come.
use Rattle.std.proofs.Common.{◌≡◌, ℕ, ◌+◌, ◌<◌, ◌≤◌, Bool, true, false, cond, List, ◌∷◌, length, drop, get_or, Option, Some, None, sym, ap, ◌∙◌, arith}
use Rattle.std.specs.List.{position_from}
use Rattle.std.proofs.lemmas.List.{at_drop_all, drop_more}

module _ {X : Type 0} (test : X → Bool) (from : ℕ) (xs : List X) where
  pub first_begins : position_from test (from + 0) xs ≡ position_from test from xs
  first_begins = ap (λ n. position_from test n xs) (let z : from + 0 ≡ from = omega arith in z)

  cut : (i : ℕ) (x : X) → i < length xs → x ≡ get_or xs i x → position_from test (from + i) (drop i xs) ≡ cond (test x) (Some (from + i)) (position_from test ((from + i) + 1) (drop (i + 1) xs))
  cut i x lt at = ap (position_from test (from + i)) (drop_more xs i x lt ∙ ap (λ y. y ∷ drop (i + 1) xs) (sym at))

  -- it doesn't hold here
  pub first_further : (i : ℕ) (x : X) (all : Option ℕ) → position_from test (from + i) (drop i xs) ≡ all → i < length xs → x ≡ get_or xs i x → test x ≡ false → position_from test (from + (i + 1)) (drop (i + 1) xs) ≡ all
  first_further i x all far lt at fails =
      ap (λ n. position_from test n (drop (i + 1) xs)) (let a : from + (i + 1) ≡ (from + i) + 1 = omega arith in a)
      ∙ sym (cut i x lt at ∙ ap (λ b. cond b (Some (from + i)) (position_from test ((from + i) + 1) (drop (i + 1) xs))) fails) ∙ far

  -- it holds here
  pub first_here : (i : ℕ) (x : X) (all : Option ℕ) → position_from test (from + i) (drop i xs) ≡ all → i < length xs → x ≡ get_or xs i x → test x ≡ true → Some (from + i) ≡ all
  first_here i x all far lt at holds = sym (cut i x lt at ∙ ap (λ b. cond b (Some (from + i)) (position_from test ((from + i) + 1) (drop (i + 1) xs))) holds) ∙ far

  -- it holds nowhere
  pub first_nowhere : (i : ℕ) (all : Option ℕ) → position_from test (from + i) (drop i xs) ≡ all → length xs ≤ i → None ≡ all
  first_nowhere i all far le = sym (at_drop_all (position_from test (from + i)) xs i le) ∙ far
