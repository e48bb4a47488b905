-- Small shapes and words for worked rows.
use Rattle.std.specs.Prelude.{ℕ, List, [], ◌∷◌, codes, Some, None}
use Rattle.ap_image.specs.declared.row.Write.{Write}
use Rattle.ap_image.specs.RowTexts.{file_label}
use Rattle.ap_image.specs.Shapes.{Shape}

-- sixteen code words of 8 bits, a memory of two words of 2 bits, inputs of 3 bits and 1 bit
abbrev pub small : Shape
small = record { code_address = 4; code_width = 8; mems = record { name = codes "M"; address = 1; width = 2 } ∷ []; inputs = 3 ∷ 1 ∷ [] }

-- two memories of one name
abbrev pub two_of_a_name : Shape
two_of_a_name = record small { mems = record { name = codes "M"; address = 1; width = 2 } ∷ record { name = codes "M"; address = 2; width = 2 } ∷ [] }

-- a memory that is named as the code memory is
abbrev pub named_code : Shape
named_code = record small { mems = record { name = codes "code"; address = 1; width = 2 } ∷ [] }

-- sixteen words
abbrev pub sixteen : List ℕ
sixteen = 255 ∷ 1 ∷ 2 ∷ 3 ∷ 4 ∷ 5 ∷ 6 ∷ 7 ∷ 8 ∷ 9 ∷ 10 ∷ 11 ∷ 12 ∷ 13 ∷ 14 ∷ 15 ∷ []

-- a register, a write port of a file and a data memory, with writes to them
abbrev pub labels : List (List ℕ)
labels = codes "R" ∷ file_label (codes "GPR") 0 ∷ codes "DM" ∷ []

abbrev pub register_write : ℕ → Write
register_write value = record { group = 0; index = None; value = value }

abbrev pub cell_write : ℕ → ℕ → Write
cell_write index value = record { group = 1; index = Some index; value = value }

abbrev pub word_write : ℕ → ℕ → Write
word_write address value = record { group = 2; index = Some address; value = value }
