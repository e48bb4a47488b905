-- That a program fits its design: each operand its field, each label the field of an address, and the slot lines their slots.
use Rattle.std.specs.Prelude.{◌≡◌, ℕ, ◌^◌, ◌<◌, ◌≤◌, false, length, Some, slice_get, zip}
use Rattle.std.specs.List.{AllByRecursion as Each}
use Rattle.ap_desc.specs.declared.design.Design.{Design}
use Rattle.ap_desc.specs.declared.design.Instr.{Instr}
use Rattle.ap_dist.specs.Places.{does_transfer, group_length}
use Rattle.ap_dist.specs.declared.source.Group.{Group}
use Rattle.ap_dist.specs.declared.source.Operand.{Operand}
use Rattle.ap_dist.specs.declared.source.Operand.TheVariants as operand
use Rattle.ap_dist.specs.declared.source.Source.{Source}
use Rattle.ap_dist.specs.declared.source.SourceLine.{SourceLine}
use Rattle.ap_program.specs.LineFaults.{free_places, is_index_field}
use Rattle.ap_program.specs.declared.operands.FreeField.{FreeField}

-- the operand fits the field beside it, in a program of so many groups; a label's field has the bits of an address and names no cell
abbrev pub OperandFits : Design → Instr → ℕ → FreeField × Operand → Type 0
OperandFits design instr groups (field, operand.Value v) = v < 2 ^ field.width
OperandFits design instr groups (field, operand.Landing g) = (g ≤ groups) × (design.address ≤ field.width) × (is_index_field instr field.place ≡ false)

-- the line has an instruction of the design, and an operand that fits for each field that it leaves free
pub record LineFits (design : Design) (groups : ℕ) (line : SourceLine) : Type 0 where
  pub instr : Instr
  pub is_instr : slice_get design.instrs line.instr ≡ Some instr
  pub count : length line.operands ≡ length (free_places design instr)
  pub operands : Each (OperandFits design instr groups) (zip (free_places design instr) line.operands)

-- the group's lines fit, and its slot lines, of which none is a transfer, are no more than there are slots
pub record GroupFits (design : Design) (groups : ℕ) (group : Group) : Type 0 where
  pub first : LineFits design groups group.first
  pub slots : Each (LineFits design groups) group.in_slots
  pub room : length group.in_slots < group_length design group
  pub plain : Each (λ (line : SourceLine). does_transfer design line.instr ≡ false) group.in_slots

pub record SourceFits (design : Design) (source : Source) : Type 0 where
  pub groups : Each (GroupFits design (length source.groups)) source.groups

-- a field of from 1 to 64 bits
abbrev pub IsWide : FreeField → Type 0
IsWide field = (1 ≤ field.width) × (field.width ≤ 64)
