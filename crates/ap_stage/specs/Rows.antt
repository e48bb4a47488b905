-- The nets of an instruction's locals, as they are made line by line.
use Rattle.std.specs.Prelude.{◌≡◌, ◌≢◌, ◌⊎◌, ℕ, ◌<◌, ◌≤◌, List, Option, Some, length, slice_get}
use Rattle.std.specs.List.{AllByRecursion as Each}
use Rattle.ap_desc.specs.Chains.{operands_of}
use Rattle.ap_desc.specs.Designs.{width_at}
use Rattle.ap_desc.specs.declared.design.Arg.{Arg}
use Rattle.ap_desc.specs.declared.design.Arg.TheVariants as arg
use Rattle.ap_net.specs.declared.cell.Wire.{Wire}
use Rattle.ap_net.specs.Draft.{Draft}
use Rattle.ap_stage.specs.declared.row.Line.{Line}
use Rattle.ap_stage.specs.declared.source.Ground.{Ground}
use Rattle.ap_stage.specs.declared.source.Scope.{Scope}
use Rattle.ap_stage.specs.Sources.{HasNet, HasRoom, IsLineNet, IsWired, NamesNets, line_bits, source_numbers}
use Rattle.ap_stage.specs.Trees.{IsShallow}

-- each net of the row stays at its place
pub record Keeps (old new : List (Option Wire)) : Type 0 where
  pub long : length new ≡ length old
  pub kept : (j : ℕ) (w : Wire) → slice_get old j ≡ Some (Some w) → slice_get new j ≡ Some (Some w)

-- what the line names is there, its operands have the widths that it asks for, and its local the width of what it gives
pub record IsLine (ground : Ground) (scope : Scope) (l : Line) : Type 0 where
  pub names : NamesNets ground scope l.act
  pub room : HasRoom ground scope l.act
  pub local : l.local < length scope.widths
  pub bits : line_bits ground scope l.act ≡ width_at (λ (width : ℕ). width) scope.widths l.local

-- the operands of the line have nets, and this one is that of what the line gives
pub record IsMade (d : Draft) (ground : Ground) (scope : Scope) (row : List (Option Wire)) (l : Line) (w : Wire) : Type 0 where
  pub wired : IsWired row l.act
  pub net : IsLineNet d ground scope row l.act w

-- Where the line's operands have nets, so has its local. No other local gets one; where this one got one, it is that of what the line gives.
pub record Fills (d : Draft) (ground : Ground) (scope : Scope) (old new : List (Option Wire)) (l : Line) : Type 0 where
  pub keeps : Keeps old new
  pub others : (j : ℕ) → j ≢ l.local → slice_get new j ≡ slice_get old j
  pub made : (w : Wire) → slice_get new l.local ≡ Some (Some w) → (slice_get old l.local ≡ Some (Some w)) ⊎ IsMade d ground scope new l w
  pub found : IsWired old l.act → HasNet new (arg.Local l.local)

-- the net of each line's local is that of what the line gives, where the line's local has one
abbrev pub AreMade : Draft → Ground → Scope → List (Option Wire) → List Line → Type 0
AreMade d ground scope row lines = (k : ℕ) (l : Line) (w : Wire) → slice_get lines k ≡ Some l → slice_get row l.local ≡ Some (Some w) → IsMade d ground scope row l w

-- none of the lines makes this local
abbrev pub MakesNone : List Line → ℕ → Type 0
MakesNone lines local = (k : ℕ) (l : Line) → slice_get lines k ≡ Some l → local ≢ l.local

-- a local that none of the lines makes is as it was
abbrev pub StaysElse : List Line → List (Option Wire) → List (Option Wire) → Type 0
StaysElse lines old new = (local : ℕ) → MakesNone lines local → slice_get new local ≡ slice_get old local

-- before the nets of a stage and of a row stand no more `? :` than before
abbrev pub StaysLow : Ground → Draft → List (Option Wire) → Draft → List (Option Wire) → Type 0
StaysLow ground old row new filled = (most : ℕ) → Each (IsShallow old most) (source_numbers ground row) → Each (IsShallow new most) (source_numbers ground filled)

-- no two lines make the same local
abbrev pub AreApart : List Line → Type 0
AreApart lines = (j k : ℕ) (one other : Line) → slice_get lines j ≡ Some one → slice_get lines k ≡ Some other → one.local ≡ other.local → j ≡ k

-- the operand isn't the local of this number
abbrev pub IsOther : ℕ → Arg → Type 0
IsOther n (arg.Local i) = i ≢ n
IsOther n _ = Unit {0}

-- no line looks at a local that it makes itself, or that a later one makes
abbrev pub ReadBack : List Line → Type 0
ReadBack lines = (k j : ℕ) (l later : Line) → slice_get lines k ≡ Some l → slice_get lines j ≡ Some later → k ≤ j → Each (IsOther later.local) (operands_of l.act)

-- the lines of an instruction that make locals
pub record AreLines (ground : Ground) (scope : Scope) (lines : List Line) : Type 0 where
  pub each : Each (IsLine ground scope) lines
  pub apart : AreApart lines
  pub back : ReadBack lines

-- where the operands of one of the first so many lines have nets, so has its local
abbrev pub AreClosed : List (Option Wire) → List Line → ℕ → Type 0
AreClosed row lines count = (k : ℕ) (l : Line) → k < count → slice_get lines k ≡ Some l → IsWired row l.act → HasNet row (arg.Local l.local)
