-- Bytes that are cut at a place.
use Rattle.std.proofs.Common.{◌≡◌, ℕ, zero, suc, ◌+◌, ◌<◌, ◌==◌, Bool, true, false, List, [], ◌∷◌, Some, None, length, get_or, take, drop, position, refl, arith}
use Rattle.std.specs.List.{position_or_len}
use Rattle.std.proofs.lemmas.Bool.Decides.{nat_tests}
use Rattle.std.proofs.lemmas.List.Quantifiers.{position-Some}
use Rattle.std.proofs.lemmas.List.Sums.{fails_before_first}
use native.Mathlib.Numerals.{unary_clauses}
use Rattle.ap_desc.specs.TokenValues.{cut_on}

cut_at : (c : ℕ) (xs : List ℕ) (i : ℕ) → i < length xs → (get_or xs i 0 == c) ≡ true → ((k : ℕ) → k < i → (get_or xs k 0 == c) ≡ false) → cut_on c xs ≡ Some (take i xs, drop (i + 1) xs)
unfolding cut_on
cut_at c [] i h e f = absurd (omega arith)
cut_at c (x ∷ xs) zero h e f = rw e refl
cut_at c (x ∷ xs) (suc i) h e f = rw (f 0 (omega arith), cut_at c xs i (omega arith) e (λ k g. f (suc k) (omega arith))) (simp unary_clauses)

-- the bytes before the place of the first c, and those after it
pub cut_on-some : (c : ℕ) (xs : List ℕ) (i : ℕ) → position (λ b. b == c) xs ≡ Some i → cut_on c xs ≡ Some (take i xs, drop (i + 1) xs)
cut_on-some c xs i h = let at = position-Some (λ b. b == c) xs i 0 h in cut_at c xs i at.0 at.1 at.2

none_at : (c : ℕ) (xs : List ℕ) → ((k : ℕ) → k < length xs → (get_or xs k 0 == c) ≡ false) → cut_on c xs ≡ None
unfolding cut_on
none_at c [] f = refl
none_at c (x ∷ xs) f = rw (f 0 (omega arith), none_at c xs (λ k g. f (suc k) (omega arith))) refl

-- where the search finds none, each place is before the first
past : (p : ℕ → Bool) (xs : List ℕ) → position p xs ≡ None → (k : ℕ) → k < length xs → k < position_or_len p xs
past p xs h k g = grind (arith, nat_tests)

-- nothing is cut where no byte is c
pub cut_on-none : (c : ℕ) (xs : List ℕ) → position (λ b. b == c) xs ≡ None → cut_on c xs ≡ None
cut_on-none c xs h = none_at c xs (λ k g. fails_before_first (λ b. b == c) xs k 0 (past (λ b. b == c) xs h k g))
