-- The words of a memory, those that were given: any further one is 0.
use Rattle.std.specs.Prelude.{ℕ, zero, suc, List, [], ◌∷◌}

-- the words with one of them written: those that lie before it and weren't given are 0
abbrev pub with_word : List ℕ → ℕ → ℕ → List ℕ
with_word [] zero value = value ∷ []
with_word [] (suc address) value = 0 ∷ with_word [] address value
with_word (word ∷ words) zero value = value ∷ words
with_word (word ∷ words) (suc address) value = word ∷ with_word words address value
