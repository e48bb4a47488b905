-- The fields of a format lie within a code word.
use Rattle.std.proofs.Common.{◌≡◌, ℕ, ◌+◌, ◌≤◌, List, [], ◌∷◌, sum_by, Option, Some, None, refl, subst, arith}
use Rattle.std.specs.Prelude.{slice_get}
use Rattle.std.specs.List.{AllByRecursion as Each}
use Rattle.std.specs.Option.{option_map_or}
use Rattle.std.proofs.lemmas.Bool.{and_parts, leb-true}
use Rattle.std.proofs.lemmas.List.Sums.{sum_by-cons}
use Rattle.ap_desc.proofs.Encoded.{encoded_if_clean}
use Rattle.ap_desc.specs.Clean.{IsClean}
use Rattle.ap_desc.specs.Designs.{ArePlaced, fields_of, is_field_width, is_format_within}
use Rattle.ap_desc.specs.declared.design.Design.{Design}
use Rattle.ap_desc.specs.declared.design.Field.{Field}
use Rattle.ap_desc.specs.declared.design.Format.{Format}
use Rattle.ap_desc.specs.declared.design.Instr.{Instr}
use Rattle.ap_model.proofs.PlainWidths.{list_all_get}
use Rattle.ap_ports.proofs.Members.{each_get, each_of}
use Rattle.ap_stage.specs.Sources.{LiesIn}

lies_more : (a b : ℕ) (fields : List Field) → a ≤ b → Each (LiesIn a) fields → Each (LiesIn b) fields
lies_more a b [] less each = tt
lies_more a b (f ∷ fields) less each = let h = each.0 in let w = h.within in (record { some = h.some; within = omega (arith, less, w) }, lies_more a b fields less each.1)

abbrev bits : List Field → ℕ
bits fields = sum_by (λ (x : Field). x.width) fields

placed_lie : (fields : List Field) → ArePlaced fields → Each (λ (f : Field). 1 ≤ f.width) fields → Each (LiesIn (bits fields)) fields
placed_lie [] placed some = tt
placed_lie (f ∷ fields) placed some =
    let sum : bits (f ∷ fields) ≡ f.width + bits fields = sum_by-cons (λ (x : Field). x.width) f fields in
    let low : f.low ≡ bits fields = placed.0 in
    (record { some = some.0; within = omega (arith, sum, low) }, lies_more (bits fields) (bits (f ∷ fields)) fields (omega (arith, sum)) (placed_lie fields placed.1 some.1))

module _ (design : Design) (clean : IsClean design) where
  format_lies : (k : ℕ) (format : Format) → slice_get design.formats k ≡ Some format → Each (LiesIn design.word) format.fields
  format_lies k format at =
      let placed = each_get (λ (f : Format). ArePlaced f.fields) design.formats k format clean.sound.formats at in
      let sum : bits format.fields ≡ design.word = each_get (λ (f : Format). bits f.fields ≡ design.word) design.formats k format (encoded_if_clean design clean).sums at in
      let within = list_all_get (is_format_within design.word) design.formats k format (and_parts _ _ clean.sound.within.formats).1 at in
      let some : Each (λ (f : Field). 1 ≤ f.width) format.fields = each_of (λ (f : Field). 1 ≤ f.width) format.fields (λ i f there.
      leb-true 1 f.width (and_parts _ _ (list_all_get (λ (x : Field). is_field_width design.word x.width) format.fields i f (and_parts _ _ within).1 there)).0) in
      subst (λ n. Each (LiesIn n) format.fields) sum (placed_lie format.fields placed some)

  pub fields_lie : (instr : Instr) → Each (LiesIn design.word) (fields_of design instr)
  fields_lie instr = go (slice_get design.formats instr.format) refl
    where
      go : (o : Option Format) → slice_get design.formats instr.format ≡ o → Each (LiesIn design.word) (option_map_or (λ (f : Format). f.fields) o [])
      go None is = tt
      go (Some format) is = format_lies instr.format format is
