-- A program at its places: where its groups end, which of these places are landings, and its words.
use Rattle.std.specs.Prelude.{◌≡◌, ℕ, ◌+◌, ◌^◌, ◌<◌, ◌≤◌, IsTrue, List, length, Contains, Some, slice_index, suc}
use Rattle.ap_desc.specs.declared.design.Design.{Design}
use Rattle.ap_dist.specs.Places.{IsPlainNop, end_before, has_line, is_landing, line_at}
use Rattle.ap_dist.specs.declared.source.Source.{Source}
use Rattle.ap_dist.specs.declared.source.SourceLine.{SourceLine}
use Rattle.ap_program.specs.declared.fault.AsmFault.{AsmFault}
use Rattle.ap_program.specs.declared.fault.AsmFault.TheVariants.{NoMemory, At}
use Rattle.ap_program.specs.declared.fault.AsmKind.TheVariants as kind
use Rattle.ap_asm.specs.LinePlaces.{HasFullImage}
use Rattle.ap_asm.specs.Words.{IsWordAmong}

-- the places directly behind the first so many groups, from none on
pub record AreEnds (design : Design) (source : Source) (starts : List ℕ) (count : ℕ) (ends : List ℕ) : Type 0 where
  pub size : length ends ≡ count + 1
  pub each : (g : ℕ) → g ≤ count → slice_index ends g ≡ end_before design source starts g

-- the places rise, and are numbers of 32 bits
pub record AreRising (places : List ℕ) : Type 0 where
  pub rise : (g h : ℕ) → g < h → h < length places → slice_index places g < slice_index places h
  pub low : (g : ℕ) → slice_index places g < 2 ^ 32

-- of the first so many places, the list has those at which landings are, each once, in ascending order
pub record ArePicked (design : Design) (source : Source) (ends : List ℕ) (count : ℕ) (landings : List ℕ) : Type 0 where
  pub rise : (i : ℕ) → suc i < length landings → slice_index landings i < slice_index landings (suc i)
  pub each : (g : ℕ) → g < count → IsTrue (is_landing design source g) → Contains landings (slice_index ends g)
  pub only : (landing : ℕ) → Contains landings landing → ((g : ℕ) → g < count → IsTrue (is_landing design source g) → slice_index ends g ≡ landing → ⊥) → ⊥

-- the code has the words of the first so many groups at their places, with these landings, and NOP at every other place
pub record HoldsGroups (design : Design) (source : Source) (starts ends : List ℕ) (count : ℕ) (code : List ℕ) : Type 0 where
  pub size : length code ≡ 2 ^ design.address
  pub lines : (g i : ℕ) (line : SourceLine) → g < count → line_at source g i ≡ Some line → IsWordAmong design ends line (slice_index code (slice_index starts g + i))
  pub others : (place : ℕ) → place < 2 ^ design.address → ((g i : ℕ) → g < count → IsTrue (has_line source g i) → slice_index starts g + i ≡ place → ⊥) → IsPlainNop design (slice_index code place)

-- why groups have no starts: the image is full, or memory ran out
abbrev pub IsFullFault : Design → Source → List (List ℕ) → AsmFault → Type 0
IsFullFault design source numbers NoMemory = Unit {0}
IsFullFault design source numbers (At line fault) = (fault ≡ kind.ImageFull) × HasFullImage design source numbers line
