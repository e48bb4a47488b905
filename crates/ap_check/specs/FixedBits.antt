-- The bits of a format's fields, and those that an instr line fixes in the code word.
use Rattle.std.specs.Prelude.{ℕ, List, sum_by}
use Rattle.ap_desc.specs.declared.design.Field.{Field}
use Rattle.ap_desc.specs.declared.statement.FieldNumber.{FieldNumber}
use Rattle.ap_desc.specs.Designs.{mask_bits, value_bits}
use Rattle.ap_desc.specs.Instructions.{fixed_of}

-- how many bits fields have together
abbrev pub field_bits : List FieldNumber → ℕ
field_bits fields = sum_by (λ (f : FieldNumber). f.number) fields

-- the bits of a field that is fixed, and their value
abbrev pub mask_of : ℕ → List FieldNumber → Field → ℕ
mask_of word fixed field = mask_bits word (field, fixed_of fixed field)

abbrev pub value_of : ℕ → List FieldNumber → Field → ℕ
value_of word fixed field = value_bits word (field, fixed_of fixed field)
