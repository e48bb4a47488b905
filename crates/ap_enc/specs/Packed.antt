-- Fields side by side, each with its fixed value or an operand's value at its place.
use Rattle.std.specs.Prelude.{◌≡◌, ℕ, ◌+◌, ◌*◌, ◌^◌, ◌<◌, List, [], ◌∷◌, Option, Some, None}
use Rattle.ap_desc.specs.declared.design.Field.{Field}

-- the width of a field that isn't fixed
abbrev pub free_width : Field × Option ℕ → Option ℕ
free_width (field, None) = Some field.width
free_width (field, Some value) = None

-- the bits of these fields together
abbrev pub width_of : List (Field × Option ℕ) → ℕ
width_of [] = 0
width_of (pair ∷ pairs) = pair.0.width + width_of pairs

-- each field stands right above those after it, and has a bit
abbrev pub AreSideBySide : List (Field × Option ℕ) → Type 0
AreSideBySide [] = Unit {0}
AreSideBySide (pair ∷ pairs) = (pair.0.low ≡ width_of pairs) × (0 < pair.0.width) × AreSideBySide pairs

-- the fixed values and those of the operands, one for each free field, fit their fields
abbrev pub DoFit : List (Field × Option ℕ) → List ℕ → Type 0
DoFit [] [] = Unit {0}
DoFit [] (value ∷ values) = ⊥
DoFit ((field, Some fixed) ∷ pairs) values = (fixed < 2 ^ field.width) × DoFit pairs values
DoFit ((field, None) ∷ pairs) [] = ⊥
DoFit ((field, None) ∷ pairs) (value ∷ values) = (value < 2 ^ field.width) × DoFit pairs values

-- the word with each field's value at its place: the fixed ones, and for the free fields the operands' in turn
abbrev pub packed : List (Field × Option ℕ) → List ℕ → ℕ
packed [] values = 0
packed ((field, Some fixed) ∷ pairs) values = fixed * 2 ^ field.low + packed pairs values
packed ((field, None) ∷ pairs) [] = 0
packed ((field, None) ∷ pairs) (value ∷ values) = value * 2 ^ field.low + packed pairs values
