-- The faults of names of a statement, judged by the tables of the names that are declared before it.
use Rattle.std.specs.Prelude.{ℕ, ◌&&◌, ◌||◌, nat_lt, not, Bool, false, List, [], Option, Some, None, option_map, slice_get, if◌then◌else◌}
use Rattle.std.specs.List.{list_any}
use Rattle.std.specs.Option.{option_map_or}
use Rattle.ap_bits.specs.declared.card.Card.{Card}
use Rattle.ap_desc.specs.declared.design.Act.{Act}
use Rattle.ap_desc.specs.declared.design.Act.TheVariants as act
use Rattle.ap_desc.specs.declared.design.Arg.{Arg}
use Rattle.ap_desc.specs.declared.design.Arg.TheVariants as arg
use Rattle.ap_desc.specs.declared.fault.Fault.{Fault}
use Rattle.ap_desc.specs.declared.fault.Fault.TheVariants as f
use Rattle.ap_desc.specs.declared.statement.FieldNumber.{FieldNumber}
use Rattle.ap_desc.specs.declared.statement.Word.{Word}
use Rattle.ap_desc.specs.declared.statement.Word.TheVariants.{Pc, Link, Named}
use Rattle.ap_desc.specs.declared.statement.Statement.{Statement}
use Rattle.ap_desc.specs.declared.statement.Statement.TheVariants as s
use Rattle.ap_desc.specs.Instructions.{assigned_name}
use Rattle.ap_desc.specs.NameFaults.{is_missing, is_no_kind}
use Rattle.ap_desc.specs.Parts.{place_of}
use Rattle.ap_desc.specs.Reserved.{is_among}
use Rattle.ap_desc.specs.Sound.{are_distinct}
use Rattle.ap_desc.specs.Spelling.{field_names}
use Rattle.ap_check.specs.Numbers.{narrowed}
use Rattle.ap_check.specs.declared.declared.Declared.{Declared}
use Rattle.ap_check.specs.declared.declared.Ports.{Ports}

-- the names at a place of a list of tables, none where there is no table
abbrev pub names_at : List (List (List ℕ)) → ℕ → List (List ℕ)
names_at tables i = option_map_or (λ (names : List (List ℕ)). names) (slice_get tables i) []

-- the fields of the format of the instruction that began last
abbrev pub open_fields : Declared → List (List ℕ)
open_fields d = option_map_or (names_at d.fields) d.begun []

abbrev pub is_part : Declared → List ℕ → Bool
is_part d name = is_among name d.regs || is_among name d.files || is_among name d.mems || is_among name d.inputs || is_among name d.units

abbrev pub is_no_operand : Declared → Word → Bool
is_no_operand d Pc = false
is_no_operand d Link = false
is_no_operand d (Named name) = is_missing name (open_fields d) && is_missing name d.locals

abbrev pub is_no_guard : Declared → Option Word → Bool
is_no_guard d guard = option_map_or (is_no_operand d) guard false

-- the operand that a word is
abbrev pub arg_in : Declared → Word → Arg
arg_in d Pc = arg.Pc
arg_in d Link = arg.Link
arg_in d (Named name) = if is_among name d.locals then arg.Local (place_of d.locals name) else arg.Field (place_of (open_fields d) name)

-- the ports of the file at a place
abbrev pub ports_at : Declared → ℕ → Ports
ports_at d i = option_map_or (λ (p : Ports). p) (slice_get d.ports i) (record { reads = 0; writes = 0 })

abbrev pub is_no_read_port : Declared → List ℕ → ℕ → Bool
is_no_read_port d file port = is_missing file d.files || not (nat_lt port (ports_at d (place_of d.files file)).reads)

abbrev pub is_no_write_port : Declared → List ℕ → ℕ → Bool
is_no_write_port d file port = is_missing file d.files || not (nat_lt port (ports_at d (place_of d.files file)).writes)

-- of the unit at a place
abbrev pub is_no_operation : Declared → ℕ → List ℕ → Bool
is_no_operation d unit op = option_map_or (λ (operations : List (List ℕ)). is_missing op operations) (slice_get d.operations unit) false

abbrev pub operation_place : Declared → ℕ → List ℕ → ℕ
operation_place d unit op = option_map_or (λ (operations : List (List ℕ)). place_of operations op) (slice_get d.operations unit) 0

abbrev pub is_local_taken : Declared → List ℕ → Bool
is_local_taken d name = is_among name (open_fields d) || is_among name d.locals

-- what is named isn't declared
abbrev pub is_unknown : Declared → Statement → Bool
is_unknown d (s.Instr name format fixed) = is_missing format d.formats || list_any (λ (f : FieldNumber). is_missing f.field (names_at d.fields (place_of d.formats format))) fixed
is_unknown d (s.Compute stage to unit op a b) = is_missing unit d.units || is_no_operand d a || is_no_operand d b
is_unknown d (s.ReadFile stage to file port index) = is_no_read_port d file port || is_no_operand d index
is_unknown d (s.ReadRegister stage to reg) = is_missing reg d.regs
is_unknown d (s.ReadMemory stage to mem at) = is_missing mem d.mems || is_no_operand d at
is_unknown d (s.ReadInput stage to input) = is_missing input d.inputs
is_unknown d (s.Zext stage to width a) = is_no_operand d a
is_unknown d (s.Sext stage to width a) = is_no_operand d a
is_unknown d (s.Slice stage to high low a) = is_no_operand d a
is_unknown d (s.Cat stage to a b) = is_no_operand d a || is_no_operand d b
is_unknown d (s.WriteFile stage file port index value guard) = is_no_write_port d file port || is_no_operand d index || is_no_operand d value || is_no_guard d guard
is_unknown d (s.WriteRegister stage reg value guard) = is_missing reg d.regs || is_no_operand d value || is_no_guard d guard
is_unknown d (s.WriteMemory stage mem at value guard) = is_missing mem d.mems || is_no_operand d at || is_no_operand d value || is_no_guard d guard
is_unknown d (s.Branch stage cond target) = is_no_operand d cond || is_no_operand d target
is_unknown d (s.Jump stage target) = is_no_operand d target
is_unknown d _ = false

-- what is declared is declared already
abbrev pub is_twice : Declared → Statement → Bool
is_twice d (s.Reg name width reset) = is_part d name
is_twice d (s.File name width cells reads writes) = is_part d name
is_twice d (s.Mem name address width) = is_part d name
is_twice d (s.In name width) = is_part d name
is_twice d (s.Unit name kind width) = is_part d name
is_twice d (s.Format name fields) = is_among name d.formats || not (are_distinct (field_names fields))
is_twice d (s.Instr name format fixed) = is_among name d.instrs || not (are_distinct (field_names fixed))
is_twice d statement = list_any (is_local_taken d) (assigned_name statement)

-- the unit has no such operation
abbrev pub is_without : Declared → Statement → Bool
is_without d (s.Compute stage to unit op a b) = is_no_operation d (place_of d.units unit) op
is_without d _ = false

-- the first of the faults of names, in the order of their numbers
unfoldable pub first_name_fault : Bool → Bool → Bool → Bool → Option Fault
first_name_fault unknown twice no_kind without =
    if unknown then Some f.Unknown else if twice then Some f.Twice else if no_kind then Some f.NoKind else if without then Some f.NoOperation else None

-- the first fault of names of a statement
abbrev pub name_fault : List Card → Declared → Statement → Option Fault
name_fault cards d statement = first_name_fault (is_unknown d statement) (is_twice d statement) (is_no_kind cards statement) (is_without d statement)

-- what a line does, its numbers in 32 bits
abbrev pub line_act : Declared → Statement → Option Act
line_act d (s.Compute stage to unit op a b) = Some (act.Compute (place_of d.units unit) (operation_place d (place_of d.units unit) op) (arg_in d a) (arg_in d b))
line_act d (s.ReadFile stage to file port index) = Some (act.ReadFile (place_of d.files file) (narrowed port) (arg_in d index))
line_act d (s.ReadRegister stage to reg) = Some (act.ReadReg (place_of d.regs reg))
line_act d (s.ReadMemory stage to mem at) = Some (act.ReadMem (place_of d.mems mem) (arg_in d at))
line_act d (s.ReadInput stage to input) = Some (act.ReadIn (place_of d.inputs input))
line_act d (s.Const stage to width value) = Some (act.Const (narrowed width) value)
line_act d (s.Zext stage to width a) = Some (act.Zext (narrowed width) (arg_in d a))
line_act d (s.Sext stage to width a) = Some (act.Sext (narrowed width) (arg_in d a))
line_act d (s.Slice stage to high low a) = Some (act.Slice (narrowed high) (narrowed low) (arg_in d a))
line_act d (s.Cat stage to a b) = Some (act.Cat (arg_in d a) (arg_in d b))
line_act d (s.WriteFile stage file port index value guard) = Some (act.WriteFile (place_of d.files file) (narrowed port) (arg_in d index) (arg_in d value) (option_map (arg_in d) guard))
line_act d (s.WriteRegister stage reg value guard) = Some (act.WriteReg (place_of d.regs reg) (arg_in d value) (option_map (arg_in d) guard))
line_act d (s.WriteMemory stage mem at value guard) = Some (act.WriteMem (place_of d.mems mem) (arg_in d at) (arg_in d value) (option_map (arg_in d) guard))
line_act d (s.Branch stage cond target) = Some (act.Branch (arg_in d cond) (arg_in d target))
line_act d (s.Jump stage target) = Some (act.Jump (arg_in d target))
line_act d _ = None
