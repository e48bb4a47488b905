-- What the lines of a program say: labels, instructions, slot lines and data. The forms are the project's own.
use Rattle.std.specs.Prelude.{ℕ, ◌+◌, ◌==◌, ◌&&◌, if◌then◌else◌, List, [], ◌∷◌, length, map, take, position, codes, Option, Some, None, option_map, option_and_then}
use Rattle.std.specs.Option.{option_or}
use Rattle.std.specs.Str.{bytes_eq}
use Rattle.ap_bits.specs.Names.{is_name}
use Rattle.ap_text.specs.Lines.{TextLine, lines_of}
use Rattle.ap_text.specs.Numbers.{number_value}
use Rattle.ap_image.specs.TraceTexts.{numbers_in}
use Rattle.ap_program.specs.declared.statement.Call.{Call}
use Rattle.ap_program.specs.declared.statement.ProgramLine.{ProgramLine}
use Rattle.ap_program.specs.declared.statement.Statement.{Statement}
use Rattle.ap_program.specs.declared.statement.Statement.TheVariants as says
use Rattle.ap_program.specs.declared.statement.Written.{Written}
use Rattle.ap_program.specs.declared.statement.Written.TheVariants as written

-- a minus sign and a number behind it
abbrev pub minus_in : List ℕ → Option Written
minus_in [] = None
minus_in (sign ∷ digits) = if sign == 45 then option_map (λ v. written.Minus v) (number_value digits) else None

abbrev pub reference_in : List ℕ → Option Written
reference_in token = if is_name token then Some (written.Label token) else None

-- the operand that a token is: a number, one behind a minus sign, or a label
unfoldable pub operand_in : List ℕ → Option Written
operand_in token = option_or (option_map (λ v. written.Number v) (number_value token)) (option_or (minus_in token) (reference_in token))

abbrev pub before_operands : Option Written → Option (List Written) → Option (List Written)
before_operands None operands = None
before_operands (Some operand) None = None
before_operands (Some operand) (Some operands) = Some (operand ∷ operands)

-- the operands that tokens are, where each of them is one
abbrev pub operands_in : List (List ℕ) → Option (List Written)
operands_in [] = Some []
operands_in (token ∷ tokens) = before_operands (operand_in token) (operands_in tokens)

-- an instruction's name and its operands
abbrev pub call_in : List (List ℕ) → Option Call
call_in [] = None
call_in (name ∷ tokens) = if is_name name then option_map (λ operands. record { instr = name; operands = operands }) (operands_in tokens) else None

-- the name before the colon with which a token ends
abbrev pub label_before : List ℕ → ℕ → Option (List ℕ)
label_before token place = if (place + 1 == length token) && is_name (take place token) then Some (take place token) else None

unfoldable pub label_in : List ℕ → Option (List ℕ)
label_in token = option_and_then (label_before token) (position (λ b. b == 58) token)

-- a memory and at least one word
abbrev pub data_in : List (List ℕ) → Option Statement
data_in [] = None
data_in (mem ∷ []) = None
data_in (mem ∷ word ∷ words) = if is_name mem then option_map (says.Data mem) (numbers_in (word ∷ words)) else None

-- a label alone
abbrev pub label_alone : List (List ℕ) → Option Statement
label_alone [] = None
label_alone (token ∷ []) = option_map says.Label (label_in token)
label_alone (token ∷ other ∷ tokens) = None

-- a label, or an instruction
abbrev pub plain_in : List (List ℕ) → Option Statement
plain_in tokens = option_or (label_alone tokens) (option_map says.Instr (call_in tokens))

-- what the tokens of a line say; nothing where they are of no form
abbrev pub said_in : List (List ℕ) → Option Statement
said_in [] = None
said_in (first ∷ tokens) =
    if bytes_eq first (codes "data") then data_in tokens else if bytes_eq first (codes "|") then option_map says.Slot (call_in tokens) else plain_in (first ∷ tokens)

-- what a line says; a line with a bad byte says nothing
unfoldable pub said_by : TextLine → Option Statement
said_by line = if line.clean then said_in line.tokens else None

-- a line of the program
abbrev pub program_line : TextLine → ProgramLine
program_line line = record { number = line.number; says = said_by line }

-- the lines of a program's text
abbrev pub program_of : List ℕ → List ProgramLine
program_of text = map program_line (lines_of text)
