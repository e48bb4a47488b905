-- A text that is appended to.
use Rattle.std.specs.Prelude.{◌≡◌, ℕ, List, length, take}

-- what the text was is still its front
pub record IsKept (old new : List ℕ) : Type 0 where
  pub front : take (length old) new ≡ old
