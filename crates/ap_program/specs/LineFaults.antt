-- The faults that the lines of a program have by themselves, before any of them has a place. The rules are the project's own.
use Rattle.std.specs.Prelude.{◌≡◌, ℕ, ◌+◌, ◌-◌, ◌^◌, ◌<◌, ◌==◌, ◌&&◌, ◌||◌, nat_le, nat_lt, not, is_none, is_some, Bool, true, false, IsTrue, MatchBool, if◌then◌else◌, List, [], ◌∷◌, ◌++◌, length, filter_map, find, zip, Option, Some, None, option_and_then, slice_get}
use Rattle.std.specs.List.{enumerate_from, list_any}
use Rattle.std.specs.Option.{option_map_or, option_or}
use Rattle.ap_desc.specs.Designs.{fields_of}
use Rattle.ap_desc.specs.declared.design.Act.{Act}
use Rattle.ap_desc.specs.declared.design.Act.TheVariants as act
use Rattle.ap_desc.specs.declared.design.Arg.{Arg}
use Rattle.ap_desc.specs.declared.design.Arg.TheVariants as arg
use Rattle.ap_desc.specs.declared.design.Design.{Design}
use Rattle.ap_desc.specs.declared.design.Field.{Field}
use Rattle.ap_desc.specs.declared.design.Instr.{Instr}
use Rattle.ap_desc.specs.declared.design.Mem.{Mem}
use Rattle.ap_desc.specs.declared.design.Micro.{Micro}
use Rattle.ap_image.specs.TextFaults.{text_limit}
use Rattle.ap_program.specs.Statements.{program_of}
use Rattle.ap_program.specs.Programs.{data_words, instr_by, instr_named, is_label_named, is_slot_next, is_transfer_call, label_by, landing_of, mem_named, slot_by, slots_before}
use Rattle.ap_program.specs.declared.fault.AsmKind.{AsmKind}
use Rattle.ap_program.specs.declared.fault.AsmKind.TheVariants as kind
use Rattle.ap_program.specs.declared.operands.FreeField.{FreeField}
use Rattle.ap_program.specs.declared.statement.Call.{Call}
use Rattle.ap_program.specs.declared.statement.ProgramLine.{ProgramLine}
use Rattle.ap_program.specs.declared.statement.Statement.{Statement}
use Rattle.ap_program.specs.declared.statement.Statement.TheVariants as says
use Rattle.ap_program.specs.declared.statement.Written.{Written}
use Rattle.ap_program.specs.declared.statement.Written.TheVariants as written

-- the instruction of a line, slot lines included
abbrev pub call_by : Option Statement → Option Call
call_by said = option_or (instr_by said) (slot_by said)

-- a field that an instruction leaves free
abbrev pub free_place : ℕ × (Field × Option ℕ) → Option FreeField
free_place (place, (field, None)) = Some (record { place = place; width = field.width })
free_place (place, (field, Some value)) = None

abbrev pub free_places : Design → Instr → List FreeField
free_places design instr = filter_map free_place (enumerate_from 0 (zip (fields_of design instr) instr.fixed))

-- the operand is this field
abbrev pub is_field : ℕ → Arg → Bool
is_field place (arg.Field i) = i == place
is_field place _ = false

-- the line of an instruction takes this field as the index of a cell
abbrev pub is_index_by : ℕ → Act → Bool
is_index_by place (act.ReadFile file port index) = is_field place index
is_index_by place (act.WriteFile file port index value guard) = is_field place index
is_index_by place _ = false

abbrev pub is_index_field : Instr → ℕ → Bool
is_index_field instr place = list_any (λ (m : Micro). is_index_by place m.act) instr.micros

-- the operand doesn't fit the field. A label needs the bits of an address, and names no cell
abbrev pub is_unfit : Design → Instr → FreeField → Written → Bool
is_unfit design instr field (written.Number v) = not (nat_lt v (2 ^ field.width))
is_unfit design instr field (written.Minus v) = not (nat_le v (2 ^ (field.width - 1)))
is_unfit design instr field (written.Label name) = nat_lt field.width design.address || is_index_field instr field.place

abbrev pub pair_is_unfit : Design → Instr → FreeField × Written → Bool
pair_is_unfit design instr (field, operand) = is_unfit design instr field operand

-- the label is that of no line
abbrev pub is_unknown : List ProgramLine → Written → Bool
is_unknown lines (written.Label name) = is_none (landing_of name lines)
is_unknown lines _ = false

-- what is wrong with the operands of a known instruction
abbrev pub has_wrong_count : Design → Call → Instr → Bool
has_wrong_count design call instr = not (length call.operands == length (free_places design instr))

abbrev pub has_unfit : Design → Call → Instr → Bool
has_unfit design call instr = list_any (pair_is_unfit design instr) (zip (free_places design instr) call.operands)

-- a test of the instruction that a call names; it fails where there is none
abbrev pub of_instr : Design → (Call → Instr → Bool) → Call → Bool
of_instr design test call = option_map_or (test call) (option_and_then (slice_get design.instrs) (instr_named design call.instr)) false

-- a test of the instruction or slot line that is said
abbrev pub of_call : (Call → Bool) → Option Statement → Bool
of_call test said = option_map_or test (call_by said) false

-- the slot line is one too many, or stands behind no transfer
abbrev pub is_stray_slot : Design → List ProgramLine → Bool
is_stray_slot design before = option_map_or (λ slots. slots == design.slots) (slots_before design before) true

-- the words don't fit their memory, or there is no such memory
abbrev pub are_bad_words : List ProgramLine → List ℕ → Mem → Bool
are_bad_words before words mem =
    list_any (λ word. not (nat_lt word (2 ^ mem.width))) words || nat_lt (2 ^ mem.address) (length (data_words mem.name before) + length words)

abbrev pub is_bad_data : Design → List ProgramLine → Option Statement → Bool
is_bad_data design before (Some (says.Data mem words)) =
    option_map_or (are_bad_words before words) (option_and_then (slice_get design.mems) (mem_named design mem)) true
is_bad_data design before _ = false

-- whether a kind of fault holds of what a line says, which stands after some of all lines and before others. Those of places hold of no
-- line by itself
abbrev pub said_fault : Design → List ProgramLine → List ProgramLine → List ProgramLine → Option Statement → AsmKind → Bool
said_fault design all before after said kind.BadForm = is_none said
said_fault design all before after said kind.UnknownInstruction = of_call (λ call. is_none (instr_named design call.instr)) said
said_fault design all before after said kind.UnknownLabel = of_call (λ call. list_any (is_unknown all) call.operands) said
said_fault design all before after said kind.LabelTwice = option_map_or (λ name. list_any (is_label_named name) before) (label_by said) false
said_fault design all before after said kind.OperandCount = of_call (of_instr design (has_wrong_count design)) said
said_fault design all before after said kind.FieldRange = of_call (of_instr design (has_unfit design)) said
said_fault design all before after said kind.TransferInSlot = option_map_or (is_transfer_call design) (slot_by said) false
said_fault design all before after said kind.SlotConflict = false
said_fault design all before after said kind.TooManySlots = option_map_or (λ (call : Call). is_stray_slot design before) (slot_by said) false
said_fault design all before after said kind.ImageFull = false
said_fault design all before after said kind.LabelInSlot = is_some (label_by said) && is_slot_next after
said_fault design all before after said kind.BadData = is_bad_data design before said

-- the same of the line
abbrev pub line_fault : Design → List ProgramLine → ProgramLine → List ProgramLine → AsmKind → Bool
line_fault design before line after = said_fault design (before ++ line ∷ after) before after line.says

-- a fault holds of the line of this number
pub record HasLineFault (design : Design) (lines : List ProgramLine) (kind : AsmKind) (number : ℕ) : Type 0 where
  pub before : List ProgramLine
  pub line : ProgramLine
  pub after : List ProgramLine
  pub among : lines ≡ before ++ line ∷ after
  pub at : line.number ≡ number
  pub holds : IsTrue (line_fault design before line after kind)

-- no line has a fault by itself
abbrev pub AreFaultless : Design → List ProgramLine → Type 0
AreFaultless design lines = (kind : AsmKind) (number : ℕ) → HasLineFault design lines kind number → ⊥

-- the same of a text; line 0 is the text as a whole. One that is too long has no other fault
abbrev pub HasTextFault : Design → List ℕ → AsmKind → ℕ → Type 0
HasTextFault design text fault number = MatchBool (nat_lt text_limit (length text))
    ((fault ≡ kind.BadForm) × (number ≡ 0))
    (HasLineFault design (program_of text) fault number)

-- the kinds in the order of their numbers
abbrev pub all_kinds : List AsmKind
all_kinds =
    kind.BadForm ∷ kind.UnknownInstruction ∷ kind.UnknownLabel ∷ kind.LabelTwice ∷ kind.OperandCount ∷ kind.FieldRange ∷ kind.TransferInSlot ∷ kind.SlotConflict
    ∷ kind.TooManySlots ∷ kind.ImageFull ∷ kind.LabelInSlot ∷ kind.BadData ∷ []

-- the first kind that holds of a line, if one does
abbrev pub first_fault : Design → List ProgramLine → ProgramLine → List ProgramLine → Option AsmKind
first_fault design before line after = find (line_fault design before line after) all_kinds

-- the first fault of an instruction, in a text of these lines
abbrev pub first_call_fault : Design → List ProgramLine → Call → Option AsmKind
first_call_fault design lines call =
    if is_none (instr_named design call.instr) then Some kind.UnknownInstruction
    else if list_any (is_unknown lines) call.operands then Some kind.UnknownLabel
    else if of_instr design (has_wrong_count design) call then Some kind.OperandCount
    else if of_instr design (has_unfit design) call then Some kind.FieldRange else None

-- what is wrong with a slot line besides
abbrev pub first_slot_fault : Design → List ProgramLine → Call → Option AsmKind
first_slot_fault design before call =
    if is_transfer_call design call then Some kind.TransferInSlot else if is_stray_slot design before then Some kind.TooManySlots else None

-- the numbers of the lines rise, and the first is above this one
abbrev pub LinesRise : ℕ → List ProgramLine → Type 0
LinesRise number [] = Unit {0}
LinesRise number (line ∷ lines) = (number < line.number) × LinesRise line.number lines
