-- The faults of the text of an image or a trace, whose lines are judged in order. These are the project's own rules.
use Rattle.std.specs.Prelude.{◌≡◌, ℕ, ◌≤◌, ◌⊎◌, nat_lt, Bool, false, IsTrue, MatchBool, List, [], ◌∷◌, ◌++◌, length, codes}
use Rattle.ap_text.specs.Lines.{TextLine, lines_of}
use Rattle.ap_image.specs.declared.fault.TheConstants.{TEXT_LIMIT}
use Rattle.ap_image.specs.declared.fault.TextFault.{TextFault}
use Rattle.ap_image.specs.declared.fault.TextFault.TheVariants.{NoMemory, At}
use Rattle.ap_image.specs.declared.fault.TextKind.{TextKind}
use Rattle.ap_image.specs.declared.fault.TextKind.TheVariants.{BadForm, NoSuchPart, ValueTooWide, TooManyWords}

-- the most bytes that such a text may have
abbrev pub text_limit : ℕ
text_limit = TEXT_LIMIT

-- the number of a kind: of two kinds at one line the lower one is named
abbrev pub number_of : TextKind → ℕ
number_of BadForm = 1
number_of NoSuchPart = 2
number_of ValueTooWide = 3
number_of TooManyWords = 4

-- the kind as it is printed
abbrev pub code_of : TextKind → List ℕ
code_of BadForm = codes "G1 BadForm"
code_of NoSuchPart = codes "G2 NoSuchPart"
code_of ValueTooWide = codes "G3 ValueTooWide"
code_of TooManyWords = codes "G4 TooManyWords"

-- how texts of one sort are judged: whether a kind of fault holds of a line that stands after these
abbrev pub Judge : Type 0
Judge = TextKind → List TextLine → TextLine → Bool

-- no fault holds of the line, where it stands after these
abbrev pub IsFine : Judge → List TextLine → TextLine → Type 0
IsFine judge before line = (kind : TextKind) → judge kind before line ≡ false

-- a fault holds at the line of this number, among lines that stand after some: at the first of them; or that one is fine,
-- and it holds among the others. So lines after the first faulty one aren't looked at
abbrev pub HasTextFaultAmong : Judge → List TextLine → List TextLine → TextKind → ℕ → Type 0
HasTextFaultAmong judge before [] kind number = ⊥
HasTextFaultAmong judge before (line ∷ lines) kind number =
    ((line.number ≡ number) × IsTrue (judge kind before line))
    ⊎ (IsFine judge before line × HasTextFaultAmong judge (before ++ line ∷ []) lines kind number)

-- a fault holds at the line of this number; line 0 is the text as a whole. A text that is too long has no other fault
abbrev pub HasTextFault : Judge → List ℕ → TextKind → ℕ → Type 0
HasTextFault judge text kind number = MatchBool (nat_lt text_limit (length text))
    ((kind ≡ BadForm) × (number ≡ 0))
    (HasTextFaultAmong judge [] (lines_of text) kind number)

-- the text has no fault
abbrev pub IsFaultlessText : Judge → List ℕ → Type 0
IsFaultlessText judge text = (kind : TextKind) (number : ℕ) → HasTextFault judge text kind number → ⊥

-- of the faults that hold, by their kinds and lines, this one is the least: by its line, and then by its number
pub record IsLeastOf (holds_at : TextKind → ℕ → Type 0) (kind : TextKind) (line : ℕ) : Type 0 where
  pub holds : holds_at kind line
  pub first : (other : TextKind) (number : ℕ) → holds_at other number → line ≤ number
  pub least : (other : TextKind) → holds_at other line → number_of kind ≤ number_of other

-- why the text gave no value: this is its least fault, or memory ran out
abbrev pub IsTextFault : Judge → List ℕ → TextFault → Type 0
IsTextFault judge text (At line kind) = IsLeastOf (HasTextFault judge text) kind line
IsTextFault judge text NoMemory = Unit {0}

-- the same of lines alone
abbrev pub IsFaultOfLines : Judge → List TextLine → TextFault → Type 0
IsFaultOfLines judge lines (At line kind) = IsLeastOf (HasTextFaultAmong judge [] lines) kind line
IsFaultOfLines judge lines NoMemory = Unit {0}

-- this is the least kind that holds of the line after these
pub record IsLeastAt (judge : Judge) (before : List TextLine) (line : TextLine) (kind : TextKind) : Type 0 where
  pub holds : IsTrue (judge kind before line)
  pub least : (other : TextKind) → IsTrue (judge other before line) → number_of kind ≤ number_of other

-- why a line after these was refused: this is its least fault, or memory ran out
abbrev pub IsFaultOfLine : Judge → List TextLine → TextLine → TextFault → Type 0
IsFaultOfLine judge before line (At number kind) = (number ≡ line.number) × IsLeastAt judge before line kind
IsFaultOfLine judge before line NoMemory = Unit {0}

-- every one of these lines is fine
abbrev pub AreFine : Judge → List TextLine → List TextLine → Type 0
AreFine judge before [] = Unit {0}
AreFine judge before (line ∷ lines) = IsFine judge before line × AreFine judge (before ++ line ∷ []) lines
