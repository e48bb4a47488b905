-- Where a group may stand behind older words that have their places.
use Rattle.std.specs.Prelude.{◌≡◌, ℕ, ◌+◌, ◌^◌, ◌<◌, ◌≤◌, Bool, IsTrue, List, Some, slice_get}
use Rattle.ap_desc.specs.declared.design.Design.{Design}
use Rattle.ap_dist.specs.Distances.{dist_of}
use Rattle.ap_asm.specs.declared.placing.Placed.{Placed}

-- the first so many of a group's words stand far enough behind an older word, where the group starts at a place
abbrev pub FirstBehindWord : ℕ → Design → ℕ → ℕ → List ℕ → ℕ → Type 0
FirstBehindWord count design older at words place = (j word : ℕ) → j < count → slice_get words j ≡ Some word → dist_of design older word + at ≤ place + j

-- all of them do
abbrev pub IsBehindWord : Design → ℕ → ℕ → List ℕ → ℕ → Type 0
IsBehindWord design older at words place = (j word : ℕ) → slice_get words j ≡ Some word → dist_of design older word + at ≤ place + j

-- a group of these words, a transfer or none, stands far enough behind a placed word
pub record IsBehind (design : Design) (drain : ℕ) (words : List ℕ) (transfers : Bool) (older : Placed) (place : ℕ) : Type 0 where
  pub apart : IsBehindWord design older.word older.at words place
  pub taken : IsTrue transfers → older.out + older.at ≤ design.branch + 1 + drain + place

-- the placed words from this one on
abbrev pub AreBehindFrom : ℕ → Design → ℕ → List ℕ → Bool → List Placed → ℕ → Type 0
AreBehindFrom from design drain words transfers placed place = (k : ℕ) (older : Placed) → from ≤ k → slice_get placed k ≡ Some older → IsBehind design drain words transfers older place

-- what is known of placed words: they stand in order, at addresses, and their greatest distances are less than the number of stages
pub record ArePlaced (design : Design) (placed : List Placed) : Type 0 where
  pub order : (j k : ℕ) (one other : Placed) → j ≤ k → slice_get placed j ≡ Some one → slice_get placed k ≡ Some other → one.at ≤ other.at
  pub near : (k : ℕ) (older : Placed) → slice_get placed k ≡ Some older → older.at < 2 ^ 20
  pub outs : (k : ℕ) (older : Placed) → slice_get placed k ≡ Some older → older.out < design.stages
