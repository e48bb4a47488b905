-- A program before it is placed: its words, in which labels stand for 0, and the numbers of its lines. And its words at their places.
use Rattle.std.specs.Prelude.{◌≡◌, ℕ, ◌+◌, ◌<◌, ◌≤◌, List, [], ◌∷◌, length, map, Some, slice_get, slice_index}
use Rattle.std.specs.Option.{option_map_or}
use Rattle.ap_bits.specs.Beside.{EachBeside}
use Rattle.ap_desc.specs.declared.design.Design.{Design}
use Rattle.ap_dist.specs.Distances.{instr_out}
use Rattle.ap_dist.specs.LeastStarts.{drain_of}
use Rattle.ap_dist.specs.Places.{end_before, line_at, lines_of_group}
use Rattle.ap_dist.specs.declared.source.Group.{Group}
use Rattle.ap_dist.specs.declared.source.Source.{Source}
use Rattle.ap_dist.specs.declared.source.SourceLine.{SourceLine}
use Rattle.ap_program.specs.Fits.{SourceFits}
use Rattle.ap_asm.specs.LinePlaces.{IsLeastPlace, out_of_line, room_of}
use Rattle.ap_asm.specs.Words.{ArePlainWords, IsPlainWord}
use Rattle.ap_asm.specs.declared.placing.Layout.{Layout}
use Rattle.ap_asm.specs.declared.placing.Placed.{Placed}

-- there is a number for each line of the group
abbrev pub HasNumbers : Group → List ℕ → Type 0
HasNumbers group numbers = length numbers ≡ length (lines_of_group group)

-- what is known of a program that fits its design
pub record IsLayout (design : Design) (layout : Layout) : Type 0 where
  pub fits : SourceFits design layout.source
  pub words : EachBeside (ArePlainWords design) layout.source.groups layout.words
  pub numbers : EachBeside HasNumbers layout.source.groups layout.numbers
  pub outs : layout.outs ≡ map (instr_out design) design.instrs
  pub drain : layout.drain ≡ drain_of design layout.source

-- the greatest distance of any instruction from the one at a place of this list; 1 where there is none
abbrev pub out_at : List ℕ → ℕ → ℕ
out_at outs instr = option_map_or (λ (n : ℕ). n) (slice_get outs instr) 1

-- these words of these lines, from a place on, with the greatest distances of their instructions
abbrev pub placed_from : List ℕ → ℕ → List ℕ → List SourceLine → List Placed
placed_from outs at [] lines = []
placed_from outs at (word ∷ words) [] = []
placed_from outs at (word ∷ words) (line ∷ lines) =
    record { at = at; word = word; out = out_at outs line.instr } ∷ placed_from outs (at + 1) words lines

-- the placed word is that of this line of a group
pub record IsPlacedLine (design : Design) (starts : List ℕ) (group number : ℕ) (line : SourceLine) (older : Placed) : Type 0 where
  pub at : older.at ≡ slice_index starts group + number
  pub word : IsPlainWord design line older.word
  pub out : older.out ≡ out_of_line design line

-- it is that of a line of one of the first so many groups
pub record IsOfGroup (design : Design) (source : Source) (starts : List ℕ) (count : ℕ) (older : Placed) : Type 0 where
  pub group : ℕ
  pub number : ℕ
  pub line : SourceLine
  pub early : group < count
  pub is_line : line_at source group number ≡ Some line
  pub is_placed : IsPlacedLine design starts group number line older

-- the line is among the placed words
pub record IsAmong (design : Design) (starts : List ℕ) (group number : ℕ) (line : SourceLine) (placed : List Placed) : Type 0 where
  pub place : ℕ
  pub older : Placed
  pub is_there : slice_get placed place ≡ Some older
  pub is_placed : IsPlacedLine design starts group number line older

-- the placed words are those of the first so many groups
pub record ArePlacedGroups (design : Design) (source : Source) (starts : List ℕ) (count : ℕ) (placed : List Placed) : Type 0 where
  pub only : (k : ℕ) (older : Placed) → slice_get placed k ≡ Some older → IsOfGroup design source starts count older
  pub all : (group number : ℕ) (line : SourceLine) → group < count → line_at source group number ≡ Some line → IsAmong design starts group number line placed

-- the first so many groups stand at their least places, and end within the room
pub record AreStarts (design : Design) (source : Source) (count : ℕ) (starts : List ℕ) : Type 0 where
  pub size : length starts ≡ count
  pub least : (g : ℕ) → g < count → IsLeastPlace design source starts (drain_of design source) g
  pub within : (g : ℕ) → g ≤ count → end_before design source starts g ≤ room_of design
