-- What single tokens give, and what the tokens of a few parts in a row give.
use Rattle.std.specs.Prelude.{ℕ, ◌==◌, ◌&&◌, List, [], ◌∷◌, Option, Some, None, option_map, codes, if◌then◌else◌}
use Rattle.std.specs.Char.{is_digit, digit_value}
use Rattle.std.specs.Str.{bytes_eq}
use Rattle.ap_text.specs.Numbers.{number_value}
use Rattle.ap_desc.specs.declared.statement.FieldNumber.{FieldNumber}
use Rattle.ap_desc.specs.declared.statement.Word.{Word}
use Rattle.ap_desc.specs.declared.statement.Word.TheVariants.{Pc, Link, Named}
use Rattle.ap_desc.specs.Reserved.{is_free_name}

-- the name that a token is
unfoldable pub name_in : List ℕ → Option (List ℕ)
name_in token = if is_free_name token then Some token else None

-- the operand that a token is
unfoldable pub word_in : List ℕ → Option Word
word_in token =
    if bytes_eq token (codes "pc") then Some Pc
    else if bytes_eq token (codes "link") then Some Link
    else option_map Named (name_in token)

-- both values, where both are there
abbrev pub beside : {A B : Type 0} → Option A → Option B → Option (A × B)
beside None b = None
beside (Some a) None = None
beside (Some a) (Some b) = Some (a, b)

-- the guard that ends a write, or none where nothing stands there
unfoldable pub guard_in : List (List ℕ) → Option (Option Word)
guard_in [] = Some None
guard_in (sign ∷ []) = None
guard_in (sign ∷ token ∷ []) = if bytes_eq sign (codes "when") then option_map (λ word. Some word) (word_in token) else None
guard_in (sign ∷ token ∷ more ∷ tokens) = None

-- the bytes before the first c and those after it, with a byte before them
abbrev pub led_by : ℕ → Option (List ℕ × List ℕ) → Option (List ℕ × List ℕ)
led_by b None = None
led_by b (Some (front, back)) = Some (b ∷ front, back)

-- the bytes before the first c, and those after it
unfoldable pub cut_on : ℕ → List ℕ → Option (List ℕ × List ℕ)
cut_on c [] = None
cut_on c (b ∷ bytes) = if b == c then Some ([], bytes) else led_by b (cut_on c bytes)

-- the number of a port, which is this letter and one digit
unfoldable pub port_in : ℕ → List ℕ → Option ℕ
port_in letter [] = None
port_in letter (first ∷ []) = None
port_in letter (first ∷ digit ∷ []) = if (first == letter) && is_digit digit 10 then Some (digit_value digit) else None
port_in letter (first ∷ digit ∷ more ∷ bytes) = None

-- a name and a number around a separator
abbrev pub field_of : Option (List ℕ × List ℕ) → Option FieldNumber
field_of None = None
field_of (Some (name, digits)) = option_map (λ v. record { field = v.0; number = v.1 }) (beside (name_in name) (number_value digits))

unfoldable pub field_in : ℕ → List ℕ → Option FieldNumber
field_in separator token = field_of (cut_on separator token)

-- one field for each token
unfoldable pub fields_in : ℕ → List (List ℕ) → Option (List FieldNumber)
fields_in separator [] = Some []
fields_in separator (token ∷ tokens) = option_map (λ v. v.0 ∷ v.1) (beside (field_in separator token) (fields_in separator tokens))

-- a part of a statement: one token, or the fields that end it
pub data Part : Type 0 where
  named : Part
  numeral : Part
  operand : Part
  widths : Part
  settings : Part

abbrev pub Value : Part → Type 0
Value named = List ℕ
Value numeral = ℕ
Value operand = Word
Value widths = List FieldNumber
Value settings = List FieldNumber

-- what one token gives as this part
abbrev pub part_value : (part : Part) → List ℕ → Option (Value part)
part_value named token = name_in token
part_value numeral token = number_value token
part_value operand token = word_in token
part_value widths token = None
part_value settings token = None

abbrev pub only_in : (part : Part) → List (List ℕ) → Option (Value part)
only_in part [] = None
only_in part (token ∷ []) = part_value part token
only_in part (token ∷ more ∷ tokens) = None

abbrev pub some_in : ℕ → List (List ℕ) → Option (List FieldNumber)
some_in separator [] = None
some_in separator (token ∷ tokens) = fields_in separator (token ∷ tokens)

-- what the last tokens give as this part: of widths there is at least one
abbrev pub last_in : (part : Part) → List (List ℕ) → Option (Value part)
last_in named tokens = only_in named tokens
last_in numeral tokens = only_in numeral tokens
last_in operand tokens = only_in operand tokens
last_in widths tokens = some_in 58 tokens
last_in settings tokens = fields_in 61 tokens

abbrev pub Values : List Part → Type 0
Values [] = Unit {0}
Values (part ∷ []) = Value part
Values (part ∷ next ∷ parts) = Value part × Values (next ∷ parts)

-- what tokens give as these parts
abbrev pub values_in : (parts : List Part) → List (List ℕ) → Option (Values parts)
values_in [] [] = Some tt
values_in [] (token ∷ tokens) = None
values_in (part ∷ []) tokens = last_in part tokens
values_in (part ∷ next ∷ parts) [] = None
values_in (part ∷ next ∷ parts) (token ∷ tokens) = beside (part_value part token) (values_in (next ∷ parts) tokens)
