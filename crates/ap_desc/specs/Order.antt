-- The order of a description's statements, and how many there may be of each sort. Sections and limits are the project's own.
use Rattle.std.specs.Prelude.{ℕ, ◌+◌, ◌==◌, ◌&&◌, ◌||◌, nat_le, nat_lt, not, Bool, true, false, List, [], ◌∷◌, ◌++◌, length, fold, count_by, codes, if◌then◌else◌}
use Rattle.std.specs.List.{list_any}
use Rattle.std.specs.Str.{bytes_eq}
use Rattle.ap_desc.specs.declared.statement.Statement.{Statement}
use Rattle.ap_desc.specs.declared.statement.Statement.TheVariants as s
use Rattle.ap_desc.specs.Limits.{max_registers, max_files, max_memories, max_inputs, max_units, max_formats, max_fields, max_instructions, max_micro_operations}

-- the sections in order: the four header statements, registers, files, memories, inputs, units, formats, instructions
abbrev pub section : Statement → ℕ
section (s.Stages count) = 0
section (s.Address bits) = 1
section (s.Word bits) = 2
section (s.Transfer stage slots) = 3
section (s.Reg name width reset) = 4
section (s.File name width cells reads writes) = 5
section (s.Mem name address width) = 6
section (s.In name width) = 7
section (s.Unit name kind width) = 8
section (s.Format name fields) = 9
section _ = 10

-- a header statement stands once
abbrev pub is_header : Statement → Bool
is_header statement = nat_lt (section statement) 4

abbrev pub is_instr : Statement → Bool
is_instr (s.Instr name format fixed) = true
is_instr _ = false

abbrev pub is_end : Statement → Bool
is_end s.End = true
is_end _ = false

-- a line of an instruction: all that stands in the section of instructions but instr and end
abbrev pub is_micro : Statement → Bool
is_micro statement = (section statement == 10) && not (is_instr statement) && not (is_end statement)

-- what the statement makes of being inside an instruction: instr begins one, end ends it
abbrev pub inside_after : Bool → Statement → Bool
inside_after inside (s.Instr name format fixed) = true
inside_after inside s.End = false
inside_after inside _ = inside

-- after these statements an instruction has begun and not ended
abbrev pub is_inside : List Statement → Bool
is_inside statements = fold inside_after false statements

-- how many micro-operations there are since the last instr
abbrev pub micros_after : ℕ → Statement → ℕ
micros_after count statement = if is_instr statement then 0 else if is_micro statement then count + 1 else count

abbrev pub micro_count : List Statement → ℕ
micro_count statements = fold micros_after 0 statements

-- the statement comes too late for an earlier one: that is of a later section, or of the same one where it stands once
abbrev pub is_late_for : Statement → Statement → Bool
is_late_for statement earlier = if is_header statement then nat_le (section statement) (section earlier) else nat_lt (section statement) (section earlier)

-- micro-operations and end stand inside an instruction, and all others outside
abbrev pub is_misplaced : Bool → Statement → Bool
is_misplaced inside statement = if is_micro statement || is_end statement then not inside else inside

-- the statement doesn't stand where it is due after these
abbrev pub is_out_of_order : List Statement → Statement → Bool
is_out_of_order earlier statement = list_any (is_late_for statement) earlier || is_misplaced (is_inside earlier) statement

-- how many of the statement's section stand before it
abbrev pub section_count : List Statement → Statement → ℕ
section_count earlier statement = count_by (λ other. section other == section statement) earlier

-- the statement, one of its fields or the micro-operation is the first beyond its limit
abbrev pub is_one_too_many : List Statement → Statement → Bool
is_one_too_many earlier (s.Reg name width reset) = section_count earlier (s.Reg name width reset) == max_registers
is_one_too_many earlier (s.File name width cells reads writes) = section_count earlier (s.File name width cells reads writes) == max_files
is_one_too_many earlier (s.Mem name address width) = section_count earlier (s.Mem name address width) == max_memories
is_one_too_many earlier (s.In name width) = section_count earlier (s.In name width) == max_inputs
is_one_too_many earlier (s.Unit name kind width) = section_count earlier (s.Unit name kind width) == max_units
is_one_too_many earlier (s.Format name fields) = (section_count earlier (s.Format name fields) == max_formats) || nat_lt max_fields (length fields)
is_one_too_many earlier (s.Instr name format fixed) = count_by is_instr earlier == max_instructions
is_one_too_many earlier statement = is_micro statement && (micro_count earlier == max_micro_operations)

-- each statement stands where it is due after those before it, and none is one too many
abbrev pub are_in_order : List Statement → List Statement → Bool
are_in_order earlier [] = true
are_in_order earlier (statement ∷ later) =
    not (is_out_of_order earlier statement) && not (is_one_too_many earlier statement) && are_in_order (earlier ++ statement ∷ []) later

abbrev pub has_section : List Statement → ℕ → Bool
has_section statements place = list_any (λ statement. section statement == place) statements

abbrev pub is_nop : Statement → Bool
is_nop (s.Instr name format fixed) = bytes_eq name (codes "NOP")
is_nop _ = false

-- all four header statements stand there, an instruction is named NOP, and the last instruction has its end
abbrev pub is_complete : List Statement → Bool
is_complete statements =
    has_section statements 0 && has_section statements 1 && has_section statements 2 && has_section statements 3
    && list_any is_nop statements && not (is_inside statements)
