-- The one form of description that is built today: fifteen lines in which six letters stand for numbers, over a shelf whose kind
-- `alu` has the operation `add`.
use Rattle.std.specs.Prelude.{◌≡◌, ◌⊎◌, ℕ, ◌≤◌, ◌<◌, ◌^◌, List, [], ◌∷◌, ◌++◌, length, take, codes, IsTrue, Some}
use Rattle.ap_bits.specs.Beside.{EachBeside}
use Rattle.ap_bits.specs.declared.card.Card.{Card}
use Rattle.ap_text.specs.Lines.{TextLine, lines_of}
use Rattle.ap_text.specs.Numbers.{number_value}
use Rattle.ap_desc.specs.Faults.{StandsAt}
use Rattle.ap_desc.specs.Meaning.{IsAccepted, IsLeastFault}
use Rattle.ap_desc.specs.declared.fault.DescFault.{DescFault}
use Rattle.ap_desc.specs.declared.fault.DescFault.TheVariants as fault
use Rattle.ap_top.specs.declared.form.Form.{Form}
use Rattle.ap_top.specs.declared.pattern.Letter.{Letter}
use Rattle.ap_top.specs.declared.pattern.Letter.TheVariants.{Address, Word, Width, Start, Code, Constant}
use Rattle.ap_top.specs.declared.form.ReadFault.{ReadFault}
use Rattle.ap_top.specs.declared.form.ReadFault.TheVariants.{Refused, NoMemory}
use Rattle.ap_top.specs.declared.form.Judged.{Judged}
use Rattle.ap_top.specs.declared.form.Judged.TheVariants as judged
use Rattle.ap_top.specs.Additions.{Operation, IsAddition}

-- the number that a letter stands for
abbrev pub value_of : Form → Letter → ℕ
value_of form Address = form.address
value_of form Word = form.word
value_of form Width = form.width
value_of form Start = form.start
value_of form Code = form.code
value_of form Constant = form.constant

-- the place of a letter among them
abbrev pub place_of : Letter → ℕ
place_of Address = 0
place_of Word = 1
place_of Width = 2
place_of Start = 3
place_of Code = 4
place_of Constant = 5

-- a token of the form: exactly these bytes, or these bytes directly followed by a number for this letter
pub data DueToken : Type 0 where
  exactly : List ℕ → DueToken
  tagged : List ℕ → Letter → DueToken

abbrev pub numbered : Letter → DueToken
numbered letter = tagged [] letter

-- the lines of the form
abbrev pub first_form : List (List DueToken)
first_form =
    (exactly (codes "stages") ∷ exactly (codes "2") ∷ [])
    ∷ (exactly (codes "address") ∷ numbered Address ∷ [])
    ∷ (exactly (codes "word") ∷ numbered Word ∷ [])
    ∷ (exactly (codes "transfer") ∷ exactly (codes "1") ∷ exactly (codes "0") ∷ [])
    ∷ (exactly (codes "reg") ∷ exactly (codes "R") ∷ numbered Width ∷ numbered Start ∷ [])
    ∷ (exactly (codes "unit") ∷ exactly (codes "U") ∷ exactly (codes "alu") ∷ numbered Width ∷ [])
    ∷ (exactly (codes "format") ∷ exactly (codes "F") ∷ tagged (codes "op:") Word ∷ [])
    ∷ (exactly (codes "instr") ∷ exactly (codes "NOP") ∷ exactly (codes "F") ∷ exactly (codes "op=0") ∷ [])
    ∷ (exactly (codes "end") ∷ [])
    ∷ (exactly (codes "instr") ∷ exactly (codes "I") ∷ exactly (codes "F") ∷ tagged (codes "op=") Code ∷ [])
    ∷ (exactly (codes "1") ∷ exactly (codes "a") ∷ exactly (codes "=") ∷ exactly (codes "R") ∷ [])
    ∷ (exactly (codes "1") ∷ exactly (codes "k") ∷ exactly (codes "=") ∷ exactly (codes "const") ∷ numbered Width ∷ numbered Constant ∷ [])
    ∷ (exactly (codes "1") ∷ exactly (codes "s") ∷ exactly (codes "=") ∷ exactly (codes "U.add") ∷ exactly (codes "a") ∷ exactly (codes "k") ∷ [])
    ∷ (exactly (codes "1") ∷ exactly (codes "R") ∷ exactly (codes "<-") ∷ exactly (codes "s") ∷ [])
    ∷ (exactly (codes "end") ∷ [])
    ∷ []

-- the token is the one due, with this form's numbers
abbrev pub IsDueToken : Form → DueToken → List ℕ → Type 0
IsDueToken form (exactly bytes) token = token ≡ bytes
IsDueToken form (tagged bytes letter) token = (digits : List ℕ) × (token ≡ bytes ++ digits) × (number_value digits ≡ Some (value_of form letter))

-- the line isn't bad, and its tokens are those due
abbrev pub IsLine : Form → List DueToken → TextLine → Type 0
IsLine form dues line = IsTrue line.clean × EachBeside (IsDueToken form) dues line.tokens

-- the lines are those due
abbrev pub AreLines : Form → List (List DueToken) → List TextLine → Type 0
AreLines form dues lines = EachBeside (IsLine form) dues lines

-- the start, the code and the constant are within their ranges
pub record AreValuesFitting (form : Form) : Type 0 where
  pub start : form.start < 2 ^ form.width
  pub code_low : 1 ≤ form.code
  pub code_high : form.code < 2 ^ form.word
  pub constant : form.constant < 2 ^ form.width

-- all six numbers are
pub record IsForm (form : Form) : Type 0 where
  pub address_low : 4 ≤ form.address
  pub address_high : form.address ≤ 16
  pub word_low : 8 ≤ form.word
  pub word_high : form.word ≤ 64
  pub width_low : 1 ≤ form.width
  pub width_high : form.width ≤ 64
  pub values : AreValuesFitting form

-- the lines are the first ones of the form, with its numbers
abbrev pub AreFirstLines : Form → List TextLine → Type 0
AreFirstLines form lines = AreLines form (take (length lines) first_form) lines

-- a unit of w bits of the shelf can add in one cycle
abbrev pub HasAddition : List Card → ℕ → Type 0
HasAddition cards w = (operation : Operation) × IsAddition cards w operation

-- the place of the line `unit` among the form's lines, counted from 0
abbrev pub unit_line : ℕ
unit_line = 5

-- where the line `unit` is among the first lines, the shelf has its unit
abbrev pub HasUnit : List Card → Form → List TextLine → Type 0
HasUnit cards form lines = unit_line < length lines → HasAddition cards form.width

-- the lines are the first ones of the form, with numbers within their ranges and a unit that the shelf has
abbrev pub BeginForm : List Card → List TextLine → Type 0
BeginForm cards lines = (form : Form) × AreFirstLines form lines × IsForm form × HasUnit cards form lines

-- the line of this number is the first that isn't due: the lines before it begin the form, and with it they don't
pub record IsFirstWrong (cards : List Card) (lines : List TextLine) (number : ℕ) : Type 0 where
  pub before : List TextLine
  pub line : TextLine
  pub place : StandsAt lines number before line
  pub begun : BeginForm cards before
  pub ends : BeginForm cards (before ++ line ∷ []) → ⊥

-- all lines begin the form, and there are too few of them
pub record AreTooFew (cards : List Card) (lines : List TextLine) : Type 0 where
  pub few : length lines < length first_form
  pub begun : BeginForm cards lines

-- where the lines aren't those of the form: at the first that isn't due, or, where there are too few, at line 0
abbrev pub IsNotBuiltAt : List Card → List TextLine → ℕ → Type 0
IsNotBuiltAt cards lines number = IsFirstWrong cards lines number ⊎ ((number ≡ 0) × AreTooFew cards lines)

-- the text has the form's lines, with these numbers
pub record IsFirstForm (text : List ℕ) (form : Form) : Type 0 where
  pub lines : AreLines form first_form (lines_of text)
  pub ranges : IsForm form

-- the text is a description without fault, of the form with these numbers, whose unit the shelf has
pub record IsFormDescription (cards : List Card) (text : List ℕ) (form : Form) : Type 0 where
  pub faultless : IsAccepted text cards
  pub first : IsFirstForm text form
  pub unit : HasAddition cards form.width

-- why a text isn't accepted: this is its least fault, or memory ran out
abbrev pub IsTextFault : List ℕ → List Card → DescFault → Type 0
IsTextFault text cards (fault.Refused refusal) = IsLeastFault text cards refusal
IsTextFault text cards fault.NoMemory = Unit {0}

-- the fault is the text's least one; or it has none, and isn't of the form from this line on
abbrev pub HasJudgedFault : List Card → List ℕ → Judged → Type 0
HasJudgedFault cards text (judged.Refused refusal) = IsLeastFault text cards refusal
HasJudgedFault cards text (judged.NotBuilt line) = IsAccepted text cards × IsNotBuiltAt cards (lines_of text) line

-- why reading a text gave no form
abbrev pub HasReadFault : List Card → List ℕ → ReadFault → Type 0
HasReadFault cards text (Refused judged) = HasJudgedFault cards text judged
HasReadFault cards text NoMemory = Unit {0}

-- why lines gave no form: they aren't its lines from this one on
abbrev pub IsNotBuilt : List Card → List TextLine → Judged → Type 0
IsNotBuilt cards lines (judged.Refused refusal) = ⊥
IsNotBuilt cards lines (judged.NotBuilt line) = IsNotBuiltAt cards lines line

-- how a fault of reading a description is one of reading a form
abbrev pub reading_of : DescFault → ReadFault
reading_of (fault.Refused refusal) = Refused (judged.Refused refusal)
reading_of fault.NoMemory = NoMemory
