-- The pieces of a line: each word of letters, digits and _ is one, and so is each other byte.
use Rattle.std.specs.Prelude.{ℕ, nat_lt, List, [], ◌∷◌, ◌++◌, length, drop, map, slice_range, if◌then◌else◌}
use Rattle.std.specs.Borrow.{Bor}
use Rattle.ap_net.specs.Names.{is_name_byte}

-- the word that stands before these pieces, where it has a byte
abbrev pub after_word : List ℕ → List (List ℕ) → List (List ℕ)
after_word [] pieces = pieces
after_word (b ∷ word) pieces = (b ∷ word) ∷ pieces

-- the pieces of what is left of a line, where this much of a word stands before it
abbrev pub pieces_after : List ℕ → List ℕ → List (List ℕ)
pieces_after word [] = after_word word []
pieces_after word (b ∷ line) = if is_name_byte b then pieces_after (word ++ b ∷ []) line else after_word word ((b ∷ []) ∷ pieces_after [] line)

-- the pieces of a line
abbrev pub pieces_of : List ℕ → List (List ℕ)
pieces_of line = pieces_after [] line

-- the bytes of pieces
abbrev pub texts : List (Bor (List ℕ)) → List (List ℕ)
texts pieces = map (λ piece. piece.now) pieces

-- the word that stands between two places, and the one from a place on, where it has a byte
abbrev pub word_between : List ℕ → ℕ → ℕ → List (List ℕ)
word_between line from to = if nat_lt from to then slice_range line from to ∷ [] else []

abbrev pub last_word : List ℕ → ℕ → List (List ℕ)
last_word line from = if nat_lt from (length line) then drop from line ∷ [] else []
