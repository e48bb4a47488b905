-- The faults of names: what is named isn't declared, or is declared twice, or is no kind or operation of the shelf. Each is a test
-- of a statement in the scope of the lines before it. The rules are the project's own.
use Rattle.std.specs.Prelude.{ℕ, ◌&&◌, ◌||◌, nat_lt, not, Bool, true, false, List, Option}
use Rattle.std.specs.List.{list_any}
use Rattle.std.specs.Option.{option_map_or}
use Rattle.ap_bits.specs.Cards.{operation_names}
use Rattle.ap_bits.specs.declared.card.Card.{Card}
use Rattle.ap_desc.specs.declared.statement.FieldNumber.{FieldNumber}
use Rattle.ap_desc.specs.declared.statement.Word.{Word}
use Rattle.ap_desc.specs.declared.statement.Word.TheVariants.{Pc, Link, Named}
use Rattle.ap_desc.specs.declared.statement.Statement.{Statement}
use Rattle.ap_desc.specs.declared.statement.Statement.TheVariants as s
use Rattle.ap_desc.specs.declared.design.File.{File}
use Rattle.ap_desc.specs.Instructions.{assigned_name}
use Rattle.ap_desc.specs.Parts.{reg_names, mem_names, input_names, unit_names, format_names, names_of_fields, fields_named, file_named, kind_names, card_of_unit}
use Rattle.ap_desc.specs.Reserved.{is_among}
use Rattle.ap_desc.specs.Scope.{Scope}
use Rattle.ap_desc.specs.Sound.{are_distinct, names_of_parts}
use Rattle.ap_desc.specs.Spelling.{field_names}

-- the name is none of these
abbrev pub is_missing : List ℕ → List (List ℕ) → Bool
is_missing name names = not (is_among name names)

-- the operand is neither pc nor link, nor a field of the instruction's format, nor a local of an earlier line of it
abbrev pub is_no_operand : Scope → Word → Bool
is_no_operand scope Pc = false
is_no_operand scope Link = false
is_no_operand scope (Named name) = is_missing name (names_of_fields scope.fields) && is_missing name scope.locals

-- the guard, where there is one, is no operand
abbrev pub is_no_guard : Scope → Option Word → Bool
is_no_guard scope guard = option_map_or (is_no_operand scope) guard false

-- the file isn't declared, or hasn't a read port of this number
abbrev pub is_no_read_port : Scope → List ℕ → ℕ → Bool
is_no_read_port scope file port = option_map_or (λ (f : File). not (nat_lt port f.reads)) (file_named scope.design file) true

-- the same of a write port
abbrev pub is_no_write_port : Scope → List ℕ → ℕ → Bool
is_no_write_port scope file port = option_map_or (λ (f : File). not (nat_lt port f.writes)) (file_named scope.design file) true

-- what the statement names isn't declared of the sort that its form needs, or the file has no port of that number
abbrev pub is_unknown : Scope → Statement → Bool
is_unknown scope (s.Instr name format fixed) = is_missing format (format_names scope.design) || list_any (λ (f : FieldNumber). is_missing f.field (names_of_fields (fields_named scope.design format))) fixed
is_unknown scope (s.Compute stage to unit op a b) = is_missing unit (unit_names scope.design) || is_no_operand scope a || is_no_operand scope b
is_unknown scope (s.ReadFile stage to file port index) = is_no_read_port scope file port || is_no_operand scope index
is_unknown scope (s.ReadRegister stage to reg) = is_missing reg (reg_names scope.design)
is_unknown scope (s.ReadMemory stage to mem at) = is_missing mem (mem_names scope.design) || is_no_operand scope at
is_unknown scope (s.ReadInput stage to input) = is_missing input (input_names scope.design)
is_unknown scope (s.Zext stage to width a) = is_no_operand scope a
is_unknown scope (s.Sext stage to width a) = is_no_operand scope a
is_unknown scope (s.Slice stage to high low a) = is_no_operand scope a
is_unknown scope (s.Cat stage to a b) = is_no_operand scope a || is_no_operand scope b
is_unknown scope (s.WriteFile stage file port index value guard) = is_no_write_port scope file port || is_no_operand scope index || is_no_operand scope value || is_no_guard scope guard
is_unknown scope (s.WriteRegister stage reg value guard) = is_missing reg (reg_names scope.design) || is_no_operand scope value || is_no_guard scope guard
is_unknown scope (s.WriteMemory stage mem at value guard) = is_missing mem (mem_names scope.design) || is_no_operand scope at || is_no_operand scope value || is_no_guard scope guard
is_unknown scope (s.Branch stage cond target) = is_no_operand scope cond || is_no_operand scope target
is_unknown scope (s.Jump stage target) = is_no_operand scope target
is_unknown scope _ = false

-- the name is declared already: registers, files, memories, inputs and units share one space
abbrev pub is_part : Scope → List ℕ → Bool
is_part scope name = is_among name (names_of_parts scope.design)

-- the local is a field of the instruction's format, or an earlier line of the instruction assigns it
abbrev pub is_local_taken : Scope → List ℕ → Bool
is_local_taken scope name = is_among name (names_of_fields scope.fields) || is_among name scope.locals

-- the name that the statement declares is declared already in its space, or it has a field twice
abbrev pub is_twice : Scope → Statement → Bool
is_twice scope (s.Reg name width reset) = is_part scope name
is_twice scope (s.File name width cells reads writes) = is_part scope name
is_twice scope (s.Mem name address width) = is_part scope name
is_twice scope (s.In name width) = is_part scope name
is_twice scope (s.Unit name kind width) = is_part scope name
is_twice scope (s.Format name fields) = is_among name (format_names scope.design) || not (are_distinct (field_names fields))
is_twice scope (s.Instr name format fixed) = is_among name scope.instrs || not (are_distinct (field_names fixed))
is_twice scope statement = list_any (is_local_taken scope) (assigned_name statement)

-- the shelf has no kind of the unit's name for it
abbrev pub is_no_kind : List Card → Statement → Bool
is_no_kind cards (s.Unit name kind width) = is_missing kind (kind_names cards)
is_no_kind cards _ = false

-- the kind of the unit has no operation of this name
abbrev pub is_no_operation : List Card → Scope → Statement → Bool
is_no_operation cards scope (s.Compute stage to unit op a b) = option_map_or (λ (card : Card). is_missing op (operation_names card)) (card_of_unit cards scope.design unit) false
is_no_operation cards scope _ = false
