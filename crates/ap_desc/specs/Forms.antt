-- The statement that tokens give, form by form, in the order in which they are told apart. That it is the one that they spell, and
-- that nothing else spells them, is a law (`forms_are_exact`).
use Rattle.std.specs.Prelude.{ℕ, ◌==◌, List, [], ◌∷◌, Option, Some, None, option_map, option_and_then, codes, length, if◌then◌else◌}
use Rattle.std.specs.Str.{bytes_eq}
use Rattle.ap_text.specs.Numbers.{number_value}
use Rattle.ap_desc.specs.declared.statement.Statement.{Statement}
use Rattle.ap_desc.specs.declared.statement.Statement.TheVariants as s
use Rattle.ap_desc.specs.declared.statement.Word.{Word}
use Rattle.ap_desc.specs.TokenValues.{Part, Values, named, numeral, operand, widths, settings, values_in, beside, name_in, word_in, guard_in, cut_on, port_in}

-- a form that begins with a word: the word, the parts after it, and the statement that their values make
pub record WordForm : Type 0 where
  pub word : List ℕ
  pub parts : List Part
  pub make : Values parts → Statement

abbrev pub stages_form : WordForm
stages_form = record { word = codes "stages"; parts = numeral ∷ []; make = λ v. s.Stages v }

abbrev pub address_form : WordForm
address_form = record { word = codes "address"; parts = numeral ∷ []; make = λ v. s.Address v }

abbrev pub word_form : WordForm
word_form = record { word = codes "word"; parts = numeral ∷ []; make = λ v. s.Word v }

abbrev pub transfer_form : WordForm
transfer_form = record { word = codes "transfer"; parts = numeral ∷ numeral ∷ []; make = λ v. s.Transfer v.0 v.1 }

abbrev pub reg_form : WordForm
reg_form = record { word = codes "reg"; parts = named ∷ numeral ∷ numeral ∷ []; make = λ v. s.Reg v.0 v.1.0 v.1.1 }

abbrev pub file_form : WordForm
file_form = record { word = codes "file"; parts = named ∷ numeral ∷ numeral ∷ numeral ∷ numeral ∷ []; make = λ v. s.File v.0 v.1.0 v.1.1.0 v.1.1.1.0 v.1.1.1.1 }

abbrev pub mem_form : WordForm
mem_form = record { word = codes "mem"; parts = named ∷ numeral ∷ numeral ∷ []; make = λ v. s.Mem v.0 v.1.0 v.1.1 }

abbrev pub input_form : WordForm
input_form = record { word = codes "in"; parts = named ∷ numeral ∷ []; make = λ v. s.In v.0 v.1 }

abbrev pub unit_form : WordForm
unit_form = record { word = codes "unit"; parts = named ∷ named ∷ numeral ∷ []; make = λ v. s.Unit v.0 v.1.0 v.1.1 }

abbrev pub format_form : WordForm
format_form = record { word = codes "format"; parts = named ∷ widths ∷ []; make = λ v. s.Format v.0 v.1 }

abbrev pub instr_form : WordForm
instr_form = record { word = codes "instr"; parts = named ∷ named ∷ settings ∷ []; make = λ v. s.Instr v.0 v.1.0 v.1.1 }

abbrev pub end_form : WordForm
end_form = record { word = codes "end"; parts = []; make = λ v. s.End }

-- what begins a header line, a declaration or an instruction, and what ends one
abbrev pub declared_forms : List WordForm
declared_forms = stages_form ∷ address_form ∷ word_form ∷ transfer_form ∷ reg_form ∷ file_form ∷ mem_form
    ∷ input_form ∷ unit_form ∷ format_form ∷ instr_form ∷ end_form ∷ []

-- the statement of this form, from the tokens after its word
abbrev pub form_in : WordForm → List (List ℕ) → Option Statement
form_in row rest = option_map row.make (values_in row.parts rest)

-- the statement of the form whose word this is, or else another
abbrev pub word_form_in : List WordForm → List ℕ → List (List ℕ) → Option Statement → Option Statement
word_form_in [] first rest other = other
word_form_in (row ∷ rows) first rest other = if bytes_eq first row.word then form_in row rest else word_form_in rows first rest other

unfoldable pub declaration_in : List ℕ → List (List ℕ) → Option Statement
declaration_in first rest = word_form_in declared_forms first rest None

-- a read port of a file, or of a memory
abbrev pub port_read : ℕ → List ℕ → List ℕ → List ℕ → Word → Option Statement
port_read stage to part name place =
    if bytes_eq part (codes "read") then Some (s.ReadMemory stage to name place)
    else option_map (λ port. s.ReadFile stage to name port place) (port_in 114 part)

unfoldable pub read_port_in : ℕ → List ℕ → List ℕ → List ℕ → List (List ℕ) → Option Statement
read_port_in stage to name part rest = option_and_then (λ v. port_read stage to part v.0 v.1) (beside (name_in name) (values_in (operand ∷ []) rest))

-- an operation of a unit
unfoldable pub compute_in : ℕ → List ℕ → List ℕ → List ℕ → List (List ℕ) → Option Statement
compute_in stage to unit op rest =
    option_map (λ v. s.Compute stage to v.0 v.1.0 v.1.1.0 v.1.1.1) (beside (name_in unit) (beside (name_in op) (values_in (operand ∷ operand ∷ []) rest)))

-- after = and a token with a point
unfoldable pub read_part_in : ℕ → List ℕ → List ℕ → List ℕ → List (List ℕ) → Option Statement
read_part_in stage to name part rest = if length rest == 1 then read_port_in stage to name part rest else compute_in stage to name part rest

-- a register alone
unfoldable pub read_register_in : ℕ → List ℕ → List ℕ → List (List ℕ) → Option Statement
read_register_in stage to reg [] = option_map (λ v. s.ReadRegister stage to v) (name_in reg)
read_register_in stage to reg (more ∷ rest) = None

-- an input port, a constant, an extension, a slice, or two operands side by side
abbrev pub input_read_form : ℕ → List ℕ → WordForm
input_read_form stage to = record { word = codes "in"; parts = named ∷ []; make = λ v. s.ReadInput stage to v }

abbrev pub const_form : ℕ → List ℕ → WordForm
const_form stage to = record { word = codes "const"; parts = numeral ∷ numeral ∷ []; make = λ v. s.Const stage to v.0 v.1 }

abbrev pub zext_form : ℕ → List ℕ → WordForm
zext_form stage to = record { word = codes "zext"; parts = numeral ∷ operand ∷ []; make = λ v. s.Zext stage to v.0 v.1 }

abbrev pub sext_form : ℕ → List ℕ → WordForm
sext_form stage to = record { word = codes "sext"; parts = numeral ∷ operand ∷ []; make = λ v. s.Sext stage to v.0 v.1 }

abbrev pub slice_form : ℕ → List ℕ → WordForm
slice_form stage to = record { word = codes "slice"; parts = numeral ∷ numeral ∷ operand ∷ []; make = λ v. s.Slice stage to v.0 v.1.0 v.1.1 }

abbrev pub cat_form : ℕ → List ℕ → WordForm
cat_form stage to = record { word = codes "cat"; parts = operand ∷ operand ∷ []; make = λ v. s.Cat stage to v.0 v.1 }

abbrev pub source_forms : ℕ → List ℕ → List WordForm
source_forms stage to = input_read_form stage to ∷ const_form stage to ∷ zext_form stage to ∷ sext_form stage to ∷ slice_form stage to
    ∷ cat_form stage to ∷ []

-- after = and a token without a point
unfoldable pub plain_source_in : ℕ → List ℕ → List ℕ → List (List ℕ) → Option Statement
plain_source_in stage to first rest = word_form_in (source_forms stage to) first rest (read_register_in stage to first rest)

abbrev pub source_by : ℕ → List ℕ → Option (List ℕ × List ℕ) → List ℕ → List (List ℕ) → Option Statement
source_by stage to None first rest = plain_source_in stage to first rest
source_by stage to (Some (name, part)) first rest = read_part_in stage to name part rest

-- what stands after =
unfoldable pub source_in : ℕ → List ℕ → List (List ℕ) → Option Statement
source_in stage to [] = None
source_in stage to (first ∷ rest) = source_by stage to (cut_on 46 first) first rest

unfoldable pub write_register_in : ℕ → List ℕ → List (List ℕ) → Option Statement
write_register_in stage reg [] = None
write_register_in stage reg (value ∷ guard) = option_map (λ v. s.WriteRegister stage v.0 v.1.0 v.1.1) (beside (name_in reg) (beside (word_in value) (guard_in guard)))

-- a name, and then the sign of a write or of a new local
unfoldable pub signed_in : ℕ → List ℕ → List (List ℕ) → Option Statement
signed_in stage name [] = None
signed_in stage name (sign ∷ rest) =
    if bytes_eq sign (codes "<-") then write_register_in stage name rest
    else if bytes_eq sign (codes "=") then option_and_then (λ to. source_in stage to rest) (name_in name)
    else None

-- a write port of a file, or of a memory
abbrev pub port_write : ℕ → List ℕ → List ℕ → Word → Word → Option Word → Option Statement
port_write stage part name place value guard =
    if bytes_eq part (codes "write") then Some (s.WriteMemory stage name place value guard)
    else option_map (λ port. s.WriteFile stage name port place value guard) (port_in 119 part)

unfoldable pub write_part_in : ℕ → List ℕ → List ℕ → List (List ℕ) → Option Statement
write_part_in stage name part [] = None
write_part_in stage name part (place ∷ []) = None
write_part_in stage name part (place ∷ value ∷ guard) =
    option_and_then (λ v. port_write stage part v.0 v.1.0 v.1.1.0 v.1.1.1) (beside (name_in name) (beside (word_in place) (beside (word_in value) (guard_in guard))))

-- a transfer
abbrev pub branch_form : ℕ → WordForm
branch_form stage = record { word = codes "branch"; parts = operand ∷ operand ∷ []; make = λ v. s.Branch stage v.0 v.1 }

abbrev pub jump_form : ℕ → WordForm
jump_form stage = record { word = codes "jump"; parts = operand ∷ []; make = λ v. s.Jump stage v }

abbrev pub transfer_forms : ℕ → List WordForm
transfer_forms stage = branch_form stage ∷ jump_form stage ∷ []

-- after the stage, a token without a point
unfoldable pub plain_micro_in : ℕ → List ℕ → List (List ℕ) → Option Statement
plain_micro_in stage first rest = word_form_in (transfer_forms stage) first rest (signed_in stage first rest)

abbrev pub micro_by : ℕ → Option (List ℕ × List ℕ) → List ℕ → List (List ℕ) → Option Statement
micro_by stage None first rest = plain_micro_in stage first rest
micro_by stage (Some (name, part)) first rest = write_part_in stage name part rest

-- what stands after the stage of a micro-operation
unfoldable pub micro_in : ℕ → List (List ℕ) → Option Statement
micro_in stage [] = None
micro_in stage (first ∷ rest) = micro_by stage (cut_on 46 first) first rest

abbrev pub statement_by : Option ℕ → List ℕ → List (List ℕ) → Option Statement
statement_by None first rest = declaration_in first rest
statement_by (Some stage) first rest = micro_in stage rest

-- the one statement that tokens can spell, where there is one
unfoldable pub statement_in : List (List ℕ) → Option Statement
statement_in [] = None
statement_in (first ∷ rest) = statement_by (number_value first) first rest
