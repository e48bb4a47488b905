-- How each form of statement is spelled: its tokens, in order.
use Rattle.std.specs.Prelude.{◌≡◌, ℕ, ◌^◌, ◌&&◌, Bool, true, false, nat_lt, IsTrue, List, [], ◌∷◌, ◌++◌, map, codes, Option, Some, None}
use Rattle.std.specs.List.{list_all}
use Rattle.std.specs.Fmt.{decimal}
use Rattle.ap_text.specs.Numbers.{number_value}
use Rattle.ap_desc.specs.declared.statement.Word.{Word}
use Rattle.ap_desc.specs.declared.statement.Word.TheVariants.{Pc, Link, Named}
use Rattle.ap_desc.specs.declared.statement.FieldNumber.{FieldNumber}
use Rattle.ap_desc.specs.declared.statement.Statement.{Statement}
use Rattle.ap_desc.specs.declared.statement.Statement.TheVariants as s
use Rattle.ap_bits.specs.Beside.{EachBeside}
use Rattle.ap_desc.specs.Reserved.{is_free_name}

-- a token of a form: exactly these bytes, or these bytes directly followed by a number
pub data Token : Type 0 where
  exactly : List ℕ → Token
  tagged : List ℕ → ℕ → Token

-- a number that stands by itself
abbrev pub number : ℕ → Token
number n = tagged [] n

-- an operand: pc, link, or the name of a local or field
abbrev pub word_text : Word → List ℕ
word_text Pc = codes "pc"
word_text Link = codes "link"
word_text (Named name) = name

abbrev pub operand : Word → Token
operand word = exactly (word_text word)

-- what of a unit, file or memory is used: its name, a point, and the operation or port
abbrev pub part_of : List ℕ → List ℕ → Token
part_of name part = exactly (name ++ codes "." ++ part)

-- a field and its width, as op:4
abbrev pub width_token : FieldNumber → Token
width_token f = tagged (f.field ++ codes ":") f.number

-- a field and its value, as op=1
abbrev pub value_token : FieldNumber → Token
value_token f = tagged (f.field ++ codes "=") f.number

-- what makes a write happen only where the guard is 1
abbrev pub guard_tokens : Option Word → List Token
guard_tokens None = []
guard_tokens (Some guard) = exactly (codes "when") ∷ operand guard ∷ []

-- a piece of a statement: a word or sign of the language, a name, a number, an operand, an operation of a unit, a port of a file
-- (its name, its letter and its number), what a memory does, fields with their widths or their values, or a guard. The last three
-- end a statement
pub data Piece : Type 0 where
  Sign : List ℕ → Piece
  Name : List ℕ → Piece
  Number : ℕ → Piece
  Operand : Word → Piece
  Operation : List ℕ → List ℕ → Piece
  Port : List ℕ → List ℕ → ℕ → Piece
  Access : List ℕ → List ℕ → Piece
  Widths : List FieldNumber → Piece
  Settings : List FieldNumber → Piece
  Guard : Option Word → Piece

-- a stage, a new local, and what it is
abbrev pub assigned : ℕ → List ℕ → List Piece → List Piece
assigned stage to from = Number stage ∷ Name to ∷ Sign (codes "=") ∷ from

-- the form of a statement: its pieces in order
abbrev pub form : Statement → List Piece
form (s.Stages count) = Sign (codes "stages") ∷ Number count ∷ []
form (s.Address bits) = Sign (codes "address") ∷ Number bits ∷ []
form (s.Word bits) = Sign (codes "word") ∷ Number bits ∷ []
form (s.Transfer stage slots) = Sign (codes "transfer") ∷ Number stage ∷ Number slots ∷ []
form (s.Reg name width reset) = Sign (codes "reg") ∷ Name name ∷ Number width ∷ Number reset ∷ []
form (s.File name width cells reads writes) = Sign (codes "file") ∷ Name name ∷ Number width ∷ Number cells ∷ Number reads ∷ Number writes ∷ []
form (s.Mem name address width) = Sign (codes "mem") ∷ Name name ∷ Number address ∷ Number width ∷ []
form (s.In name width) = Sign (codes "in") ∷ Name name ∷ Number width ∷ []
form (s.Unit name kind width) = Sign (codes "unit") ∷ Name name ∷ Name kind ∷ Number width ∷ []
form (s.Format name fields) = Sign (codes "format") ∷ Name name ∷ Widths fields ∷ []
form (s.Instr name format fixed) = Sign (codes "instr") ∷ Name name ∷ Name format ∷ Settings fixed ∷ []
form (s.Compute stage to unit op a b) = assigned stage to (Operation unit op ∷ Operand a ∷ Operand b ∷ [])
form (s.ReadFile stage to file port index) = assigned stage to (Port file (codes "r") port ∷ Operand index ∷ [])
form (s.ReadRegister stage to reg) = assigned stage to (Name reg ∷ [])
form (s.ReadMemory stage to mem at) = assigned stage to (Access mem (codes "read") ∷ Operand at ∷ [])
form (s.ReadInput stage to input) = assigned stage to (Sign (codes "in") ∷ Name input ∷ [])
form (s.Const stage to width value) = assigned stage to (Sign (codes "const") ∷ Number width ∷ Number value ∷ [])
form (s.Zext stage to width a) = assigned stage to (Sign (codes "zext") ∷ Number width ∷ Operand a ∷ [])
form (s.Sext stage to width a) = assigned stage to (Sign (codes "sext") ∷ Number width ∷ Operand a ∷ [])
form (s.Slice stage to high low a) = assigned stage to (Sign (codes "slice") ∷ Number high ∷ Number low ∷ Operand a ∷ [])
form (s.Cat stage to a b) = assigned stage to (Sign (codes "cat") ∷ Operand a ∷ Operand b ∷ [])
form (s.WriteFile stage file port index value guard) = Number stage ∷ Port file (codes "w") port ∷ Operand index ∷ Operand value ∷ Guard guard ∷ []
form (s.WriteRegister stage reg value guard) = Number stage ∷ Name reg ∷ Sign (codes "<-") ∷ Operand value ∷ Guard guard ∷ []
form (s.WriteMemory stage mem at value guard) = Number stage ∷ Access mem (codes "write") ∷ Operand at ∷ Operand value ∷ Guard guard ∷ []
form (s.Branch stage cond target) = Number stage ∷ Sign (codes "branch") ∷ Operand cond ∷ Operand target ∷ []
form (s.Jump stage target) = Number stage ∷ Sign (codes "jump") ∷ Operand target ∷ []
form s.End = Sign (codes "end") ∷ []

-- the tokens of a piece
abbrev pub piece_tokens : Piece → List Token
piece_tokens (Sign word) = exactly word ∷ []
piece_tokens (Name name) = exactly name ∷ []
piece_tokens (Number n) = number n ∷ []
piece_tokens (Operand word) = operand word ∷ []
piece_tokens (Operation unit op) = part_of unit op ∷ []
piece_tokens (Port file letter port) = part_of file (letter ++ decimal port) ∷ []
piece_tokens (Access mem word) = part_of mem word ∷ []
piece_tokens (Widths fields) = map width_token fields
piece_tokens (Settings fields) = map value_token fields
piece_tokens (Guard guard) = guard_tokens guard

-- the tokens of pieces
abbrev pub tokens_in : List Piece → List Token
tokens_in [] = []
tokens_in (piece ∷ []) = piece_tokens piece
tokens_in (piece ∷ next ∷ pieces) = piece_tokens piece ++ tokens_in (next ∷ pieces)

-- the tokens of a statement
abbrev pub spelling : Statement → List Token
spelling statement = tokens_in (form statement)

-- a number that a token can spell is at most 2^64 - 1
abbrev pub is_small : ℕ → Bool
is_small n = nat_lt n (2 ^ 64)

-- an operand's name may be used
abbrev pub is_free_word : Word → Bool
is_free_word Pc = true
is_free_word Link = true
is_free_word (Named name) = is_free_name name

abbrev pub is_free_guard : Option Word → Bool
is_free_guard None = true
is_free_guard (Some guard) = is_free_word guard

abbrev pub are_free_fields : List FieldNumber → Bool
are_free_fields fields = list_all (λ f. is_free_name f.field && is_small f.number) fields

abbrev pub has_fields : List FieldNumber → Bool
has_fields [] = false
has_fields (f ∷ fields) = true

-- the piece can be spelled: its names may be used, its numbers are small, a port's number is one digit, and there is a width
abbrev pub is_spellable : Piece → Bool
is_spellable (Sign word) = true
is_spellable (Name name) = is_free_name name
is_spellable (Number n) = is_small n
is_spellable (Operand word) = is_free_word word
is_spellable (Operation unit op) = is_free_name unit && is_free_name op
is_spellable (Port file letter port) = is_free_name file && nat_lt port 10
is_spellable (Access mem word) = is_free_name mem
is_spellable (Widths fields) = has_fields fields && are_free_fields fields
is_spellable (Settings fields) = are_free_fields fields
is_spellable (Guard guard) = is_free_guard guard

-- the statement has a spelling: each of its pieces has one
pub record IsSpellable (statement : Statement) : Type 0 where
  pub pieces : IsTrue (list_all is_spellable (form statement))

abbrev pub field_names : List FieldNumber → List (List ℕ)
field_names fields = map (λ f. f.field) fields

-- the bytes are a token of the form: a number may have any spelling
abbrev pub IsToken : Token → List ℕ → Type 0
IsToken (exactly bytes) token = token ≡ bytes
IsToken (tagged tag n) token = (digits : List ℕ) × (token ≡ tag ++ digits) × (number_value digits ≡ Some n)

-- the tokens spell the statement
pub record Spells (statement : Statement) (tokens : List (List ℕ)) : Type 0 where
  pub spellable : IsSpellable statement
  pub spelled : EachBeside IsToken (spelling statement) tokens
