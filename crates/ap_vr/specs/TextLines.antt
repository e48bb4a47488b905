-- The lines of a text, each with the line feed that ends it; the last may lack it.
use Rattle.std.specs.Prelude.{ℕ, ◌+◌, ◌==◌, List, [], ◌∷◌, if◌then◌else◌}

-- a byte before the first of these lines
abbrev pub led_by : ℕ → List (List ℕ) → List (List ℕ)
led_by b [] = (b ∷ []) ∷ []
led_by b (line ∷ lines) = (b ∷ line) ∷ lines

abbrev pub text_lines : List ℕ → List (List ℕ)
text_lines [] = []
text_lines (b ∷ text) = if b == 10 then (b ∷ []) ∷ text_lines text else led_by b (text_lines text)

-- how many bytes the first line of a text has
abbrev pub first_len : List ℕ → ℕ
first_len [] = 0
first_len (b ∷ text) = if b == 10 then 1 else first_len text + 1
