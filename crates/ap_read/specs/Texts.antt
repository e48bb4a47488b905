-- Tokens as lists of bytes.
use Rattle.std.specs.Prelude.{ℕ, List, map}
use Rattle.std.specs.Borrow.{Bor}

-- the bytes of tokens
abbrev pub texts : List (Bor (List ℕ)) → List (List ℕ)
texts tokens = map (λ token. token.now) tokens
