-- A table of labels: pairs of a name and a landing.
use Rattle.std.specs.Prelude.{ℕ, List, [], ◌∷◌, ◌++◌, Bool, false, Option, Some, None, is_none, is_some, if◌then◌else◌}
use Rattle.std.specs.Str.{bytes_eq}
use Rattle.ap_program.specs.declared.statement.Written.{Written}
use Rattle.ap_program.specs.declared.statement.Written.TheVariants as written

-- what stands beside the name, where it is there
abbrev pub landing_among : List (List ℕ × ℕ) → List ℕ → Option ℕ
landing_among [] name = None
landing_among (pair ∷ pairs) name = if bytes_eq name pair.0 then Some pair.1 else landing_among pairs name

-- the table with one more label at its end, where the name isn't there
abbrev pub with_label : List (List ℕ × ℕ) → List ℕ → ℕ → List (List ℕ × ℕ)
with_label pairs name landing = if is_some (landing_among pairs name) then pairs else pairs ++ (name, landing) ∷ []

-- the operand is a label that isn't in the table
abbrev pub is_unlisted : List (List ℕ × ℕ) → Written → Bool
is_unlisted pairs (written.Label name) = is_none (landing_among pairs name)
is_unlisted pairs _ = false
