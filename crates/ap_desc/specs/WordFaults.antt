-- The faults of a design's code words: formats that don't fill the word, fixed values that don't fit, instructions that share a word,
-- and a NOP that does something. The rules are the project's own.
use Rattle.std.specs.Prelude.{◌≡◌, ℕ, ◌^◌, ◌<◌, ◌==◌, ◌&&◌, not, Bool, true, false, List, [], ◌∷◌, sum_by, zip, Option, Some, slice_get}
use Rattle.std.specs.List.{list_any}
use Rattle.std.specs.Option.{option_map_or}
use Rattle.ap_desc.specs.declared.design.Design.{Design}
use Rattle.ap_desc.specs.declared.design.Format.{Format}
use Rattle.ap_desc.specs.declared.design.Field.{Field}
use Rattle.ap_desc.specs.declared.design.Instr.{Instr}
use Rattle.ap_desc.specs.declared.design.Micro.{Micro}
use Rattle.ap_desc.specs.Designs.{Matches, fields_of, has_bits, is_named_nop}

-- the fields' widths don't sum to the width of a code word
abbrev pub is_wrong_sum : ℕ → Format → Bool
is_wrong_sum word format = not (sum_by (λ (x : Field). x.width) format.fields == word)

-- a format at the line is of a wrong sum
abbrev pub has_wrong_sum : Design → ℕ → Bool
has_wrong_sum design line = list_any (λ (f : Format). is_wrong_sum design.word f && (f.line == line)) design.formats

-- the fixed value, where there is one, doesn't fit its field
abbrev pub is_unfit : Field × Option ℕ → Bool
is_unfit (field, value) = option_map_or (λ v. not (has_bits field.width v)) value false

-- an instruction at the line has a fixed value that doesn't fit
abbrev pub has_unfit_value : Design → ℕ → Bool
has_unfit_value design line = list_any (λ (i : Instr). list_any is_unfit (zip (fields_of design i) i.fixed) && (i.line == line)) design.instrs

-- some word matches the instruction at the line and an earlier one
pub record SharesWord (design : Design) (line : ℕ) : Type 0 where
  pub place : ℕ
  pub instr : Instr
  pub is_there : slice_get design.instrs place ≡ Some instr
  pub at : instr.line ≡ line
  pub earlier : ℕ
  pub other : Instr
  pub is_other : slice_get design.instrs earlier ≡ Some other
  pub stands_before : earlier < place
  pub word : ℕ
  pub is_word : word < 2 ^ design.word
  pub matches : Matches instr word
  pub matches_other : Matches other word

abbrev pub has_lines : List Micro → Bool
has_lines [] = false
has_lines (m ∷ micros) = true

-- the instruction at the line is NOP and has a micro-operation
abbrev pub has_full_nop : Design → ℕ → Bool
has_full_nop design line = list_any (λ (i : Instr). is_named_nop i && has_lines i.micros && (i.line == line)) design.instrs
