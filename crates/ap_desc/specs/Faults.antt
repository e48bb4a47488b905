-- The faults of form of a text, and the least fault. The kinds of the later phases are judged from the statements of a text
-- without fault of form; here they hold of none.
use Rattle.std.specs.Prelude.{◌≡◌, ℕ, ◌<◌, ◌≤◌, ◌⊎◌, ◌||◌, not, Bool, true, false, IsTrue, List, [], ◌∷◌, ◌++◌, length, fold, codes, if◌then◌else◌}
use Rattle.std.specs.List.{list_any, starts_with}
use Rattle.std.specs.Cmp.Lexicographic.{pointwise}
use Rattle.std.specs.Str.{bytes_eq}
use Rattle.ap_text.specs.Lines.{TextLine, lines_of}
use Rattle.ap_desc.specs.declared.fault.Fault.{Fault}
use Rattle.ap_desc.specs.declared.fault.Fault.TheVariants as f
use Rattle.ap_desc.specs.declared.fault.Refusal.{Refusal}
use Rattle.ap_desc.specs.declared.statement.Statement.{Statement}
use Rattle.ap_bits.specs.Beside.{EachBeside}
use Rattle.ap_desc.specs.FaultTable.{phase_of, number_of}
use Rattle.ap_desc.specs.Limits.{description_limit}
use Rattle.ap_desc.specs.Order.{is_out_of_order, is_one_too_many}
use Rattle.ap_desc.specs.Reading.{SpellsLine}

-- the line says nothing: it is bad, or of no form, or has a name or number that is none
abbrev pub SaysNothing : TextLine → Type 0
SaysNothing line = (statement : Statement) → SpellsLine statement line → ⊥

-- among the lines this one has the number, and these stand before it
pub record StandsAt (lines : List TextLine) (number : ℕ) (before : List TextLine) (line : TextLine) : Type 0 where
  pub after : List TextLine
  pub parts : lines ≡ before ++ line ∷ after
  pub numbered : line.number ≡ number

-- the line of this number says the statement, and the lines before it say these
pub record SaysAt (lines : List TextLine) (number : ℕ) (earlier : List Statement) (statement : Statement) : Type 0 where
  pub before : List TextLine
  pub line : TextLine
  pub place : StandsAt lines number before line
  pub said : EachBeside SpellsLine earlier before
  pub says : SpellsLine statement line

-- the line's first tokens are these
abbrev pub begins : List (List ℕ) → TextLine → Bool
begins tokens line = starts_with bytes_eq line.tokens tokens

-- the line's tokens are exactly these
abbrev pub consists_of : List (List ℕ) → TextLine → Bool
consists_of tokens line = pointwise bytes_eq tokens line.tokens

abbrev pub none_begins : List (List ℕ) → List TextLine → Bool
none_begins tokens lines = not (list_any (begins tokens) lines)

-- a line that begins instr opens an instruction, and a line that is end closes it
abbrev pub open_after : Bool → TextLine → Bool
open_after is_open line = if begins (codes "instr" ∷ []) line then true else if consists_of (codes "end" ∷ []) line then false else is_open

-- after the last line that begins instr there is no line end
abbrev pub is_left_open : List TextLine → Bool
is_left_open lines = fold open_after false lines

-- a header word begins no line, or instr NOP begins none, or the last instruction has no end
abbrev pub is_missing_some : List TextLine → Bool
is_missing_some lines =
    none_begins (codes "stages" ∷ []) lines || none_begins (codes "address" ∷ []) lines || none_begins (codes "word" ∷ []) lines
    || none_begins (codes "transfer" ∷ []) lines || none_begins (codes "instr" ∷ codes "NOP" ∷ []) lines || is_left_open lines

-- a fault of form holds at the line of this number; line 0 is the text as a whole. Where a line before it says nothing, that
-- one is faulty, and of the order of this line nothing is said
abbrev pub HasFaultAmong : List TextLine → Fault → ℕ → Type 0
HasFaultAmong lines f.BadLine number = (before : List TextLine) × (line : TextLine) × StandsAt lines number before line × SaysNothing line
HasFaultAmong lines f.BadOrder number = (earlier : List Statement) × (statement : Statement) × SaysAt lines number earlier statement × IsTrue (is_out_of_order earlier statement)
HasFaultAmong lines f.TooMany number = (earlier : List Statement) × (statement : Statement) × SaysAt lines number earlier statement × IsTrue (is_one_too_many earlier statement)
HasFaultAmong lines f.Missing number = (number ≡ 0) × IsTrue (is_missing_some lines)
HasFaultAmong lines _ number = ⊥

-- a fault holds at the line of this number: a text that is too long has no other
abbrev pub HasFormFault : List ℕ → Fault → ℕ → Type 0
HasFormFault text f.TooLong number = (number ≡ 0) × (description_limit < length text)
HasFormFault text kind number = (length text ≤ description_limit) × HasFaultAmong (lines_of text) kind number

-- the text has no fault of form
abbrev pub IsWellFormed : List ℕ → Type 0
IsWellFormed text = (kind : Fault) (number : ℕ) → HasFormFault text kind number → ⊥

-- one fault comes before another: by phase, then by line, then by number
abbrev pub IsBefore : Fault → ℕ → Fault → ℕ → Type 0
IsBefore kind line other other_line = (phase_of kind < phase_of other)
    ⊎ ((phase_of kind ≡ phase_of other) × ((line < other_line) ⊎ ((line ≡ other_line) × (number_of kind < number_of other))))

-- the refusal names the least fault of the text
pub record IsLeastFormFault (text : List ℕ) (refusal : Refusal) : Type 0 where
  pub phase : refusal.phase ≡ phase_of refusal.kind
  pub holds : HasFormFault text refusal.kind refusal.line
  pub least : (kind : Fault) (line : ℕ) → HasFormFault text kind line → IsBefore kind line refusal.kind refusal.line → ⊥
