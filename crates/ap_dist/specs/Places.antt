-- Where a program stands in the code memory: each group at its start, in order, and NOP at every other place.
use Rattle.std.specs.Prelude.{◌≡◌, ℕ, ◌+◌, ◌^◌, ◌<◌, ◌≤◌, ◌&&◌, ◌||◌, Bool, true, false, IsTrue, if◌then◌else◌, List, [], ◌∷◌, length, map, Contains, Option, IfSome, IsSomeAnd, is_some, slice_get, slice_index, suc, zero, option_and_then}
use Rattle.std.specs.List.{list_any}
use Rattle.std.specs.Option.{option_map_or}
use Rattle.ap_desc.specs.Chains.{operands_of}
use Rattle.ap_desc.specs.Designs.{is_named_nop}
use Rattle.ap_desc.specs.Ports.{is_transfer}
use Rattle.ap_desc.specs.declared.design.Arg.{Arg}
use Rattle.ap_desc.specs.declared.design.Arg.TheVariants as arg
use Rattle.ap_desc.specs.declared.design.Design.{Design}
use Rattle.ap_desc.specs.declared.design.Field.{Field}
use Rattle.ap_desc.specs.declared.design.Instr.{Instr}
use Rattle.ap_desc.specs.declared.design.Micro.{Micro}
use Rattle.ap_enc.specs.Words.{IsWordOf, operands_at}
use Rattle.ap_image.specs.declared.image.Image.{Image}
use Rattle.ap_dist.specs.Spaced.{word_at}
use Rattle.ap_dist.specs.declared.source.Group.{Group}
use Rattle.ap_dist.specs.declared.source.Operand.{Operand}
use Rattle.ap_dist.specs.declared.source.Operand.TheVariants as operand
use Rattle.ap_dist.specs.declared.source.Source.{Source}
use Rattle.ap_dist.specs.declared.source.SourceLine.{SourceLine}

-- a branch or a jump is among the lines of the instruction at a place
abbrev pub does_transfer : Design → ℕ → Bool
does_transfer design place = option_map_or (λ (i : Instr). list_any (λ (m : Micro). is_transfer m.act) i.micros) (slice_get design.instrs place) false

abbrev pub is_link : Arg → Bool
is_link a = elim a as (λ _. Bool) [ arg.Link ↦ true | _ ↦ false ]

-- a line of the instruction at a place reads the address behind its slots
abbrev pub reads_link : Design → ℕ → Bool
reads_link design place = option_map_or (λ (i : Instr). list_any (λ (m : Micro). list_any is_link (operands_of m.act)) i.micros) (slice_get design.instrs place) false

-- how many places a group takes: a transfer has all its slots
abbrev pub group_length : Design → Group → ℕ
group_length design group = if does_transfer design group.first.instr then design.slots + 1 else 1

-- the lines of a group, which stand side by side
abbrev pub lines_of_group : Group → List SourceLine
lines_of_group group = group.first ∷ group.in_slots

-- the line at a place of a group
abbrev pub line_at : Source → ℕ → ℕ → Option SourceLine
line_at source g i = option_and_then (λ (group : Group). slice_get (lines_of_group group) i) (slice_get source.groups g)

abbrev pub has_line : Source → ℕ → ℕ → Bool
has_line source g i = is_some (line_at source g i)

-- the place directly after the groups before this one; 0 where there is none
abbrev pub end_before : Design → Source → List ℕ → ℕ → ℕ
end_before design source starts zero = 0
end_before design source starts (suc g) = slice_index starts g + option_map_or (group_length design) (slice_get source.groups g) 0

abbrev pub is_labelled : Source → ℕ → Bool
is_labelled source g = option_map_or (λ (group : Group). group.labelled) (slice_get source.groups g) source.labelled_end

-- the group before this one is a transfer that leaves an address to come back to
abbrev pub is_returned_to : Design → Source → ℕ → Bool
is_returned_to design source zero = false
is_returned_to design source (suc g) =
    option_map_or (λ (group : Group). does_transfer design group.first.instr && reads_link design group.first.instr) (slice_get source.groups g) false

-- there is a landing before the group of this number, or after the last one; it is the place where the groups before it end
abbrev pub is_landing : Design → Source → ℕ → Bool
is_landing design source g = is_labelled source g || is_returned_to design source g

-- the value of an operand; that of a label is its landing
abbrev pub operand_value : Design → Source → List ℕ → Operand → ℕ
operand_value design source starts (operand.Value value) = value
operand_value design source starts (operand.Landing g) = end_before design source starts g

-- the word is that of the line
abbrev pub IsWordOfLine : Design → Source → List ℕ → SourceLine → ℕ → Type 0
IsWordOfLine design source starts line word = IsWordOf design line.instr (map (operand_value design source starts) line.operands) word

-- the word is that of NOP, with 0 for each operand
abbrev pub IsPlainNop : Design → ℕ → Type 0
IsPlainNop design word =
    (place : ℕ) → IsSomeAnd (slice_get design.instrs place) (λ instr. IsTrue (is_named_nop instr)) → IsWordOf design place (map (λ (f : Field). 0) (operands_at design place)) word

-- the list has the landings of the source, each once, in ascending order
pub record AreLandings (design : Design) (source : Source) (starts landings : List ℕ) : Type 0 where
  pub rise : (i : ℕ) → suc i < length landings → slice_index landings i < slice_index landings (suc i)
  pub each : (g : ℕ) → g ≤ length source.groups → IsTrue (is_landing design source g) → Contains landings (end_before design source starts g)
  pub only : (landing : ℕ) → Contains landings landing → ((g : ℕ) → g ≤ length source.groups → IsTrue (is_landing design source g) → end_before design source starts g ≡ landing → ⊥) → ⊥

-- the image has the source with its groups at these starts
pub record ArePlaces (design : Design) (source : Source) (starts : List ℕ) (image : Image) (landings : List ℕ) : Type 0 where
  pub starts_of_groups : length starts ≡ length source.groups
  pub in_order : (g : ℕ) → g < length source.groups → end_before design source starts g ≤ slice_index starts g
  pub lines : (g i : ℕ) → IfSome (line_at source g i) (λ line. IsWordOfLine design source starts line (word_at design image (slice_index starts g + i)))
  pub others : (place : ℕ) → place < 2 ^ design.address → ((g i : ℕ) → IsTrue (has_line source g i) → slice_index starts g + i ≡ place → ⊥) → IsPlainNop design (word_at design image place)
  pub landings_of_source : AreLandings design source starts landings
  pub mems : image.mems ≡ source.mems
