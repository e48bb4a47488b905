-- A memory of a bench: how many words it has, and those that were given or written.
use Rattle.std.specs.Prelude.{◌≡◌, ℕ, ◌≤◌, List, [], ◌∷◌, length, take, slice_index, Option, None, Some, map}

pub record Cells : Type 0 where
  pub room : ℕ
  pub words : List ℕ

-- so many of the words are known
abbrev pub cells_of : List ℕ → ℕ → Cells
cells_of words known = record { room = length words; words = take known words }

-- all words from there on are 0
pub record IsMemory (words : List ℕ) (known : ℕ) : Type 0 where
  pub within : known ≤ length words
  pub rest : (n : ℕ) → known ≤ n → slice_index words n ≡ 0

-- the words of each memory
abbrev pub words_of : List Cells → List (List ℕ)
words_of memories = map (λ (m : Cells). m.words) memories

abbrev pub rooms_of : List Cells → List ℕ
rooms_of memories = map (λ (m : Cells). m.room) memories

-- the first memory is that of the code, and the others are the data memories
abbrev pub first_words : List (List ℕ) → List ℕ
first_words [] = []
first_words (words ∷ memories) = words

abbrev pub other_words : List (List ℕ) → List (List ℕ)
other_words [] = []
other_words (words ∷ memories) = memories

-- the word of a memory at an address
abbrev pub word_in : Option Cells → ℕ → ℕ
word_in None address = 0
word_in (Some m) address = slice_index m.words address
