-- The program that lines without fault say: its groups, with a value or a landing for each operand, and the words of its memories.
use Rattle.std.specs.Prelude.{ℕ, ◌-◌, ◌%◌, ◌^◌, ◌||◌, false, Bool, if◌then◌else◌, List, [], ◌∷◌, ◌++◌, map, zip, unwrap_or, option_to_list, slice_get}
use Rattle.std.specs.Option.{option_map_or}
use Rattle.ap_desc.specs.declared.design.Design.{Design}
use Rattle.ap_desc.specs.declared.design.Mem.{Mem}
use Rattle.ap_dist.specs.declared.source.Group.{Group}
use Rattle.ap_dist.specs.declared.source.Operand.{Operand}
use Rattle.ap_dist.specs.declared.source.Operand.TheVariants as operand
use Rattle.ap_dist.specs.declared.source.Source.{Source}
use Rattle.ap_dist.specs.declared.source.SourceLine.{SourceLine}
use Rattle.ap_program.specs.LineFaults.{free_places}
use Rattle.ap_program.specs.Programs.{data_words, instr_by, instr_named, is_instr, is_label, is_slot, landing_of, slot_by}
use Rattle.ap_program.specs.declared.operands.FreeField.{FreeField}
use Rattle.ap_program.specs.declared.statement.Call.{Call}
use Rattle.ap_program.specs.declared.statement.ProgramLine.{ProgramLine}
use Rattle.ap_program.specs.declared.statement.Written.{Written}
use Rattle.ap_program.specs.declared.statement.Written.TheVariants as written

-- the operand of a field of this width: a number behind a minus sign counts from the end of the field's range
abbrev pub operand_of : List ProgramLine → ℕ → Written → Operand
operand_of lines width (written.Number v) = operand.Value v
operand_of lines width (written.Minus v) = operand.Value ((2 ^ width - v) % 2 ^ width)
operand_of lines width (written.Label name) = operand.Landing (unwrap_or (landing_of name lines) 0)

-- the same of a field and what stands beside it
abbrev pub operand_beside : List ProgramLine → FreeField × Written → Operand
operand_beside lines (field, operand) = operand_of lines field.width operand

-- the operands of the instruction at a place
abbrev pub operands_of_call : Design → List ProgramLine → ℕ → List Written → List Operand
operands_of_call design lines place operands =
    map (operand_beside lines) (zip (option_map_or (free_places design) (slice_get design.instrs place) []) operands)

-- the instruction that a line of the program is
abbrev pub source_line : Design → List ProgramLine → Call → SourceLine
source_line design lines call = record {
  instr = unwrap_or (instr_named design call.instr) 0;
  operands = operands_of_call design lines (unwrap_or (instr_named design call.instr) 0) call.operands;
}

-- the slot lines up to the next instruction, and their numbers
abbrev pub slot_lines : Design → List ProgramLine → List ProgramLine → List SourceLine
slot_lines design all [] = []
slot_lines design all (line ∷ lines) = if is_instr line then [] else map (source_line design all) (option_to_list (slot_by line.says)) ++ slot_lines design all lines

abbrev pub slot_numbers : List ProgramLine → List ℕ
slot_numbers [] = []
slot_numbers (line ∷ lines) = if is_instr line then [] else (if is_slot line then line.number ∷ [] else []) ++ slot_numbers lines

-- the group that an instruction begins, where these lines follow it
abbrev pub group_of : Design → List ProgramLine → Bool → List ProgramLine → Call → Group
group_of design all labelled lines call = record { labelled = labelled; first = source_line design all call; in_slots = slot_lines design all lines }

-- the groups of these lines; whether a label stands right before the first of them is given
abbrev pub groups_from : Design → List ProgramLine → Bool → List ProgramLine → List Group
groups_from design all labelled [] = []
groups_from design all labelled (line ∷ lines) =
    option_map_or (λ call. group_of design all labelled lines call ∷ groups_from design all false lines) (instr_by line.says)
    (groups_from design all (labelled || is_label line) lines)

-- a label stands behind the last instruction of these lines
abbrev pub labelled_after : Bool → List ProgramLine → Bool
labelled_after labelled [] = labelled
labelled_after labelled (line ∷ lines) = labelled_after (if is_instr line then false else labelled || is_label line) lines

-- the numbers of the lines of each group
abbrev pub numbers_of : List ProgramLine → List (List ℕ)
numbers_of [] = []
numbers_of (line ∷ lines) = if is_instr line then (line.number ∷ slot_numbers lines) ∷ numbers_of lines else numbers_of lines

-- the program without its text
abbrev pub source_of : Design → List ProgramLine → Source
source_of design lines = record {
  groups = groups_from design lines false lines;
  labelled_end = labelled_after false lines;
  mems = map (λ (m : Mem). data_words m.name lines) design.mems;
}
