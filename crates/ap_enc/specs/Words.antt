-- The words of instructions: the operands that an instruction leaves to a program, the words that give them values, and the
-- instruction that a word matches. The rules are the project's own.
use Rattle.std.specs.Prelude.{◌≡◌, ℕ, ◌^◌, ◌<◌, nat_lt, not, Bool, List, [], map, filter_map, position, zip, Option, Some, None, IsSomeAnd, slice_get}
use Rattle.std.specs.Option.{option_map_or}
use Rattle.ap_desc.specs.Designs.{Matches, field_value, fields_of}
use Rattle.ap_desc.specs.declared.design.Design.{Design}
use Rattle.ap_desc.specs.declared.design.Field.{Field}
use Rattle.ap_desc.specs.declared.design.Instr.{Instr}

-- the field, where the instruction doesn't fix it
abbrev pub free_field : Field × Option ℕ → Option Field
free_field (field, None) = Some field
free_field (field, Some value) = None

-- the fields that an instruction leaves free, in order: its operands
abbrev pub free_fields : Design → Instr → List Field
free_fields design instr = filter_map free_field (zip (fields_of design instr) instr.fixed)

-- the operands of the instruction at a place, and none where there is no instruction
abbrev pub operands_at : Design → ℕ → List Field
operands_at design place = option_map_or (free_fields design) (slice_get design.instrs place) []

-- the word matches the instruction at a place
abbrev pub MatchesAt : Design → ℕ → ℕ → Type 0
MatchesAt design place word = IsSomeAnd (slice_get design.instrs place) (λ instr. Matches instr word)

-- the instruction at a place is the one that the word matches
pub record IsOnlyMatch (design : Design) (word place : ℕ) : Type 0 where
  pub matches : MatchesAt design place word
  pub only : (other : ℕ) → MatchesAt design other word → other ≡ place

-- the value doesn't fit so many bits
abbrev pub is_too_wide : ℕ × ℕ → Bool
is_too_wide (width, value) = not (nat_lt value (2 ^ width))

-- the number of the first operand whose value doesn't fit it
abbrev pub first_unfit : Design → ℕ → List ℕ → Option ℕ
first_unfit design place values = position is_too_wide (zip (map (λ (f : Field). f.width) (operands_at design place)) values)

-- a code word of the instruction at a place, with these values of its operands
pub record IsWordOf (design : Design) (place : ℕ) (values : List ℕ) (word : ℕ) : Type 0 where
  pub fits : word < 2 ^ design.word
  pub matches : MatchesAt design place word
  pub operands : map (λ (f : Field). field_value f word) (operands_at design place) ≡ values
