-- Which statement, if any, the tokens of a line spell.
use Rattle.std.specs.Prelude.{ℕ, List, Option, Some, None}
use Rattle.ap_desc.specs.declared.statement.Statement.{Statement}
use Rattle.ap_desc.specs.Spelling.{Spells}

-- the tokens spell this statement, or there is none that they spell
abbrev pub IsSaidBy : Option Statement → List (List ℕ) → Type 0
IsSaidBy (Some statement) tokens = Spells statement tokens
IsSaidBy None tokens = (statement : Statement) → Spells statement tokens → ⊥
