-- Labels, instructions and slots among the lines of a program.
use Rattle.std.specs.Prelude.{ℕ, ◌+◌, ◌||◌, Bool, false, if◌then◌else◌, List, [], ◌∷◌, fold, position, Option, Some, None, option_map, is_some, suc}
use Rattle.std.specs.List.{flat_map}
use Rattle.std.specs.Option.{option_map_or}
use Rattle.std.specs.Str.{bytes_eq}
use Rattle.ap_desc.specs.declared.design.Design.{Design}
use Rattle.ap_desc.specs.declared.design.Instr.{Instr}
use Rattle.ap_desc.specs.declared.design.Mem.{Mem}
use Rattle.ap_dist.specs.Places.{does_transfer}
use Rattle.ap_program.specs.declared.statement.Call.{Call}
use Rattle.ap_program.specs.declared.statement.ProgramLine.{ProgramLine}
use Rattle.ap_program.specs.declared.statement.Statement.{Statement}
use Rattle.ap_program.specs.declared.statement.Statement.TheVariants as says

-- the label that a line is
abbrev pub label_by : Option Statement → Option (List ℕ)
label_by (Some (says.Label name)) = Some name
label_by _ = None

-- the instruction that a line is, slot lines aside
abbrev pub instr_by : Option Statement → Option Call
instr_by (Some (says.Instr call)) = Some call
instr_by _ = None

-- the instruction of a slot line
abbrev pub slot_by : Option Statement → Option Call
slot_by (Some (says.Slot call)) = Some call
slot_by _ = None

-- the words that a line gives a memory
abbrev pub words_by : List ℕ → Option Statement → List ℕ
words_by name (Some (says.Data mem words)) = if bytes_eq name mem then words else []
words_by name _ = []

abbrev pub is_label : ProgramLine → Bool
is_label line = is_some (label_by line.says)

abbrev pub is_instr : ProgramLine → Bool
is_instr line = is_some (instr_by line.says)

abbrev pub is_slot : ProgramLine → Bool
is_slot line = is_some (slot_by line.says)

-- the line is the label of this name
abbrev pub is_label_named : List ℕ → ProgramLine → Bool
is_label_named name line = option_map_or (bytes_eq name) (label_by line.says) false

-- the line begins a group
abbrev pub group_count : ProgramLine → ℕ
group_count line = if is_instr line then 1 else 0

-- how many groups stand before the label of this name, where there is such a label
abbrev pub landing_of : List ℕ → List ProgramLine → Option ℕ
landing_of name [] = None
landing_of name (line ∷ lines) = if is_label_named name line then Some 0 else option_map (λ n. group_count line + n) (landing_of name lines)

-- the place of the instruction of this name, and of the memory of this name
abbrev pub instr_named : Design → List ℕ → Option ℕ
instr_named design name = position (λ (i : Instr). bytes_eq i.name name) design.instrs

abbrev pub mem_named : Design → List ℕ → Option ℕ
mem_named design name = position (λ (m : Mem). bytes_eq m.name name) design.mems

-- the instruction is a transfer
abbrev pub is_transfer_call : Design → Call → Bool
is_transfer_call design call = option_map_or (does_transfer design) (instr_named design call.instr) false

-- how many slot lines the transfer before a line has, where one stands there with only slot lines, labels and data between
abbrev pub slots_after : Design → Option ℕ → ProgramLine → Option ℕ
slots_after design slots line =
    option_map_or (λ call. if is_transfer_call design call then Some 0 else None) (instr_by line.says)
    (if is_slot line then option_map suc slots else if is_some line.says then slots else None)

abbrev pub slots_before : Design → List ProgramLine → Option ℕ
slots_before design lines = fold (slots_after design) None lines

-- the next instruction or slot line of these is a slot line
abbrev pub is_slot_next : List ProgramLine → Bool
is_slot_next [] = false
is_slot_next (line ∷ lines) = is_slot line || (if is_instr line then false else is_slot_next lines)

-- the words that lines give the memory of this name
abbrev pub data_words : List ℕ → List ProgramLine → List ℕ
data_words name lines = flat_map (λ (line : ProgramLine). words_by name line.says) lines
