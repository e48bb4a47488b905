-- Designs that are sound: what their lines name is there, names differ, and every operand has the width that is needed. Designs
-- whose words are without fault.
use Rattle.std.specs.Prelude.{◌≡◌, ℕ, ◌^◌, ◌<◌, ◌&&◌, not, Bool, true, IsTrue, List, [], ◌∷◌, ◌++◌, map, sum_by, Option, slice_get, IsSomeAnd}
use Rattle.std.specs.List.{AllByRecursion as Each, list_all, list_any, zip}
use Rattle.std.specs.Option.{option_map_or}
use Rattle.std.specs.Str.{bytes_eq}
use Rattle.ap_desc.specs.declared.design.Design.{Design}
use Rattle.ap_desc.specs.declared.design.Format.{Format}
use Rattle.ap_desc.specs.declared.design.Field.{Field}
use Rattle.ap_desc.specs.declared.design.Instr.{Instr}
use Rattle.ap_desc.specs.declared.design.Micro.{Micro}
use Rattle.ap_desc.specs.Designs.{Matches, IsWithinLimits, has_bits, names_in, lines_in, is_named_nop, Rise, ArePlaced, IsRight, arg_width}
use Rattle.ap_desc.specs.Parts.{reg_names, file_names, mem_names, input_names, unit_names, format_names, names_of_fields}
use Rattle.ap_desc.specs.Reserved.{is_free_name}
use Rattle.ap_desc.specs.Widths.{has_widths}

-- no name stands twice
abbrev pub are_distinct : List (List ℕ) → Bool
are_distinct [] = true
are_distinct (name ∷ names) = not (list_any (bytes_eq name) names) && are_distinct names

-- registers, files, memories, input ports and units share one space of names
abbrev pub names_of_parts : Design → List (List ℕ)
names_of_parts design = reg_names design ++ file_names design ++ mem_names design ++ input_names design ++ unit_names design

-- no name is declared twice in its space
abbrev pub are_named_once : Design → Bool
are_named_once design =
    are_distinct (names_of_parts design) && are_distinct (format_names design) && are_distinct (map (λ (i : Instr). i.name) design.instrs)
    && list_all (λ (f : Format). are_distinct (names_of_fields f.fields)) design.formats

-- every line of an instruction with a format of these fields has the widths that it needs
abbrev pub are_lines_typed : Design → Instr → List Field → Bool
are_lines_typed design instr fields = list_all (λ (m : Micro). has_widths design (arg_width design instr.locals fields) m.act) instr.micros

-- the instruction's format is declared, and its lines have the widths that they need
abbrev pub IsTyped : Design → Instr → Type 0
IsTyped design instr = IsSomeAnd (slice_get design.formats instr.format) (λ format. IsTrue (are_lines_typed design instr format.fields))

-- the design is sound: its numbers are within the limits, its names may be used and differ, one instruction is NOP, its lines
-- stand in the order of a text, all that they name is there, and they have the widths that they need
pub record IsSound (design : Design) : Type 0 where
  pub within : IsWithinLimits design
  pub names : IsTrue (list_all is_free_name (names_in design))
  pub once : IsTrue (are_named_once design)
  pub nop : IsTrue (list_any is_named_nop design.instrs)
  pub lines : Rise 0 (lines_in design)
  pub formats : Each (λ (f : Format). ArePlaced f.fields) design.formats
  pub instrs : Each (IsRight design) design.instrs
  pub typed : Each (IsTyped design) design.instrs

-- each fixed value fits its field
abbrev pub fits_field : Field × Option ℕ → Bool
fits_field (field, value) = option_map_or (has_bits field.width) value true

abbrev pub AreFixedFitting : Design → Instr → Type 0
AreFixedFitting design instr = IsSomeAnd (slice_get design.formats instr.format) (λ format. IsTrue (list_all fits_field (zip format.fields instr.fixed)))

-- no word of so many bits matches both instructions
abbrev pub ShareNoWord : ℕ → Instr → Instr → Type 0
ShareNoWord bits one other = (word : ℕ) → word < 2 ^ bits → Matches one word → Matches other word → ⊥

-- nor any two of these
abbrev pub AreApart : ℕ → List Instr → Type 0
AreApart bits [] = Unit {0}
AreApart bits (instr ∷ instrs) = Each (ShareNoWord bits instr) instrs × AreApart bits instrs

-- the instruction NOP does nothing
abbrev pub IsEmptyNop : Instr → Type 0
IsEmptyNop instr = IsTrue (is_named_nop instr) → instr.micros ≡ []

-- the words of the design's instructions are without fault: formats fill the word, fixed values fit, no two instructions share a
-- word, and NOP is empty
pub record IsEncoded (design : Design) : Type 0 where
  pub sums : Each (λ (f : Format). sum_by (λ (x : Field). x.width) f.fields ≡ design.word) design.formats
  pub fixed : Each (AreFixedFitting design) design.instrs
  pub words : AreApart design.word design.instrs
  pub nop : Each IsEmptyNop design.instrs
