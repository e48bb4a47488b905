-- Lists with one element set, and the storages after writes.
use Rattle.std.proofs.Common.{◌≡◌, ℕ, zero, suc, ◌≤◌, ◌<◌, List, [], ◌∷◌, ◌++◌, length, set, refl, ap, arith}
use Rattle.ap_image.specs.Words.{with_word}

pub set_beyond : (xs : List ℕ) (i v : ℕ) → length xs ≤ i → set xs i v ≡ xs
set_beyond [] i v h = refl
set_beyond (x ∷ xs) zero v h = absurd (omega (arith, h))
set_beyond (x ∷ xs) (suc i) v h = ap (λ rest. x ∷ rest) (set_beyond xs i v (omega (arith, h)))

-- within the words a word is set
pub word_set : (xs : List ℕ) (i v : ℕ) → i < length xs → set xs i v ≡ with_word xs i v
word_set [] i v h = absurd (omega (arith, h))
word_set (x ∷ xs) zero v h = refl
word_set (x ∷ xs) (suc i) v h = ap (λ rest. x ∷ rest) (word_set xs i v (omega (arith, h)))

-- a word that wasn't given is 0
pub word_more : (xs : List ℕ) (i v : ℕ) → length xs ≤ i → with_word (xs ++ 0 ∷ []) i v ≡ with_word xs i v
word_more [] zero v h = refl
word_more [] (suc i) v h = refl
word_more (x ∷ xs) zero v h = absurd (omega (arith, h))
word_more (x ∷ xs) (suc i) v h = ap (λ rest. x ∷ rest) (word_more xs i v (omega (arith, h)))
