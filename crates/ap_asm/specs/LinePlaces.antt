-- How far apart the lines of a program have to stand, and the places at which its groups start. An operand that is a label names no
-- cell, so the distance of two lines is that of their words, whatever the labels stand for.
use Rattle.std.specs.Prelude.{◌≡◌, ℕ, ◌+◌, ◌-◌, ◌^◌, ◌<◌, ◌≤◌, IsTrue, List, [], ◌∷◌, length, filter_map, Option, Some, None, option_and_then, slice_get, slice_index, suc}
use Rattle.std.specs.Option.{option_map_or}
use Rattle.ap_desc.specs.Chains.{makers}
use Rattle.ap_desc.specs.declared.design.Arg.{Arg}
use Rattle.ap_desc.specs.declared.design.Arg.TheVariants as arg
use Rattle.ap_desc.specs.declared.design.Design.{Design}
use Rattle.ap_desc.specs.declared.design.Instr.{Instr}
use Rattle.ap_desc.specs.declared.design.Micro.{Micro}
use Rattle.ap_dist.specs.Accesses.{access_by, constant_of}
use Rattle.ap_dist.specs.Distances.{gap_between, instr_out}
use Rattle.ap_dist.specs.LeastStarts.{drain_of, transfers_at}
use Rattle.ap_dist.specs.Places.{end_before, is_landing, line_at}
use Rattle.ap_dist.specs.declared.access.Access.{Access}
use Rattle.ap_dist.specs.declared.source.Operand.{Operand}
use Rattle.ap_dist.specs.declared.source.Operand.TheVariants as operand
use Rattle.ap_dist.specs.declared.source.Source.{Source}
use Rattle.ap_dist.specs.declared.source.SourceLine.{SourceLine}

-- a number among operands; none where a label stands there
abbrev pub value_in : Operand → Option ℕ
value_in (operand.Value v) = Some v
value_in (operand.Landing g) = None

-- the values of an instruction's fields: the fixed ones, and for the free ones the operands in turn
abbrev pub values_in : List (Option ℕ) → List Operand → List (Option ℕ)
values_in [] operands = []
values_in (Some v ∷ fixed) operands = Some v ∷ values_in fixed operands
values_in (None ∷ fixed) [] = None ∷ values_in fixed []
values_in (None ∷ fixed) (o ∷ operands) = value_in o ∷ values_in fixed operands

-- the index of a cell, as the line fixes it
abbrev pub index_by : Instr → List (Option ℕ) → Arg → Option ℕ
index_by instr values (arg.Local i) = option_and_then constant_of (slice_get (makers instr) i)
index_by instr values (arg.Field i) = option_and_then (λ (v : Option ℕ). v) (slice_get values i)
index_by instr values _ = None

-- what an instruction with these operands accesses
abbrev pub accesses_with : Instr → List Operand → List Access
accesses_with instr operands = filter_map (λ (m : Micro). access_by (index_by instr (values_in instr.fixed operands)) m.stage m.act) instr.micros

abbrev pub accesses_of_line : Design → SourceLine → List Access
accesses_of_line design line = option_map_or (λ (i : Instr). accesses_with i line.operands) (slice_get design.instrs line.instr) []

-- the distance of the younger line from the older one
unfoldable pub dist_of_lines : Design → SourceLine → SourceLine → ℕ
dist_of_lines design older younger = gap_between (accesses_of_line design older) (accesses_of_line design younger)

-- the greatest distance of any instruction from a line
abbrev pub out_of_line : Design → SourceLine → ℕ
out_of_line design line = option_map_or (instr_out design) (slice_get design.instrs line.instr) 1

-- the number of a line of a group
abbrev pub number_at : List (List ℕ) → ℕ → ℕ → Option ℕ
number_at numbers g i = option_and_then (λ (ns : List ℕ). slice_get ns i) (slice_get numbers g)

-- the slot line of this number is nearer to its transfer, or to an earlier slot line of the group, than their distance
pub record HasSlotConflict (design : Design) (source : Source) (numbers : List (List ℕ)) (number : ℕ) : Type 0 where
  pub group : ℕ
  pub older : ℕ
  pub younger : ℕ
  pub order : older < younger
  pub older_line : SourceLine
  pub is_older : line_at source group older ≡ Some older_line
  pub younger_line : SourceLine
  pub is_younger : line_at source group younger ≡ Some younger_line
  pub near : younger < older + dist_of_lines design older_line younger_line
  pub at : number_at numbers group younger ≡ Some number

-- the group of this number may stand at a place, where those before it stand at their starts
pub record MayStand (design : Design) (source : Source) (starts : List ℕ) (drain g place : ℕ) : Type 0 where
  pub behind : end_before design source starts g ≤ place
  pub drained : IsTrue (is_landing design source g) → end_before design source starts g + drain ≤ place
  pub apart : (h i j : ℕ) (older younger : SourceLine) → h < g → line_at source h i ≡ Some older → line_at source g j ≡ Some younger
      → dist_of_lines design older younger + (slice_index starts h + i) ≤ place + j
  pub taken : (h i : ℕ) (older : SourceLine) → h < g → line_at source h i ≡ Some older → IsTrue (transfers_at design source g)
      → out_of_line design older + (slice_index starts h + i) ≤ design.branch + 1 + drain + place

-- it may stand at its start, and not a place earlier
pub record IsLeastPlace (design : Design) (source : Source) (starts : List ℕ) (drain g : ℕ) : Type 0 where
  pub may : MayStand design source starts drain g (slice_index starts g)
  pub least : (place : ℕ) → suc place ≡ slice_index starts g → MayStand design source starts drain g place → ⊥

-- the last place behind a program leaves a place for each stage
abbrev pub room_of : Design → ℕ
room_of design = 2 ^ design.address - design.stages

-- the group whose first line has this number is the first that ends beyond the room, where all groups up to it stand at their least
-- places
pub record HasFullImage (design : Design) (source : Source) (numbers : List (List ℕ)) (number : ℕ) : Type 0 where
  pub starts : List ℕ
  pub group : ℕ
  pub is_group : group < length source.groups
  pub least : (g : ℕ) → g ≤ group → IsLeastPlace design source starts (drain_of design source) g
  pub within : (g : ℕ) → g ≤ group → end_before design source starts g ≤ room_of design
  pub beyond : room_of design < end_before design source starts (suc group)
  pub at : number_at numbers group 0 ≡ Some number
