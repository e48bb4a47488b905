-- Words of a group that are nearer to older ones than their distance.
use Rattle.std.specs.Prelude.{◌≡◌, ℕ, ◌+◌, ◌<◌, ◌≤◌, List, [], length, Some, slice_get}
use Rattle.std.specs.List.{slice_index_or}
use Rattle.ap_desc.specs.declared.design.Design.{Design}
use Rattle.ap_dist.specs.Distances.{dist_of}
use Rattle.ap_dist.specs.Places.{line_at}
use Rattle.ap_dist.specs.declared.source.Source.{Source}
use Rattle.ap_dist.specs.declared.source.SourceLine.{SourceLine}
use Rattle.ap_program.specs.declared.fault.AsmFault.{AsmFault}
use Rattle.ap_program.specs.declared.fault.AsmFault.TheVariants.{NoMemory, At}
use Rattle.ap_program.specs.declared.fault.AsmKind.TheVariants as kind
use Rattle.ap_asm.specs.LinePlaces.{dist_of_lines, number_at}

-- the word at a place is nearer to an older one than their distance
pub record IsNear (design : Design) (words : List ℕ) (place : ℕ) : Type 0 where
  pub older : ℕ
  pub order : older < place
  pub word : ℕ
  pub is_word : slice_get words older ≡ Some word
  pub younger : ℕ
  pub is_younger : slice_get words place ≡ Some younger
  pub near : place < older + dist_of design word younger

-- the same of the first so many older ones
abbrev pub AreFar : Design → List ℕ → ℕ → ℕ → Type 0
AreFar design words place count = (older word younger : ℕ) → older < count → slice_get words older ≡ Some word → slice_get words place ≡ Some younger → older + dist_of design word younger ≤ place

-- of these groups' words this is the first that is too near
pub record IsFirstNear (design : Design) (words : List (List ℕ)) (group place : ℕ) : Type 0 where
  pub here : IsNear design (slice_index_or words group []) place
  pub groups : (g j : ℕ) → g < group → IsNear design (slice_index_or words g []) j → ⊥
  pub places : (j : ℕ) → j < place → IsNear design (slice_index_or words group []) j → ⊥

-- the fault is at the line of the first word that is too near
pub record IsNearAt (design : Design) (words numbers : List (List ℕ)) (line : ℕ) : Type 0 where
  pub group : ℕ
  pub place : ℕ
  pub first : IsFirstNear design words group place
  pub at : number_at numbers group place ≡ Some line

abbrev pub IsSlotFault : Design → List (List ℕ) → List (List ℕ) → AsmFault → Type 0
IsSlotFault design words numbers NoMemory = ⊥
IsSlotFault design words numbers (At line fault) = (fault ≡ kind.SlotConflict) × IsNearAt design words numbers line

-- as many numbers as words
abbrev pub HasAsMany : List ℕ → List ℕ → Type 0
HasAsMany words numbers = length numbers ≡ length words

-- no word of these groups is too near
abbrev pub AreWordsApart : Design → List (List ℕ) → Type 0
AreWordsApart design words = (g j : ℕ) → IsNear design (slice_index_or words g []) j → ⊥

-- no line of a group is nearer to an earlier one of it than their distance
abbrev pub AreSlotsApart : Design → Source → Type 0
AreSlotsApart design source = (g i j : ℕ) (older younger : SourceLine) → i < j → line_at source g i ≡ Some older → line_at source g j ≡ Some younger → dist_of_lines design older younger + i ≤ j
