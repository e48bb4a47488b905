-- Values that fit are packed to a word of the instruction.
use Rattle.std.proofs.Common.{◌≡◌, ℕ, suc, ◌+◌, ◌*◌, ◌^◌, ◌<◌, ◌≤◌, true, false, List, [], ◌∷◌, length, get_or, map, Option, Some, None, refl, sym, ap, subst, ◌∙◌, arith, sum_by}
use Rattle.std.specs.Prelude.{bit_and, nat_le, nat_lt, position, slice_get, zip, filter_map}
use Rattle.std.specs.List.{AllByRecursion as Each, cons_option, list_all}
use Rattle.std.specs.Option.{option_map_or}
use Rattle.std.proofs.lemmas.Bool.{and_parts, leb-true, ltb-true, not-false}
use Rattle.std.proofs.lemmas.Option.{slice_get_read, slice_get_within}
use Rattle.std.proofs.lemmas.Slice.Zip.{length-zip}
use Rattle.ap_desc.specs.Designs.{Matches, field_value, mask_bits, value_bits, fields_of}
use Rattle.ap_desc.specs.Sound.{AreFixedFitting, IsEncoded, IsSound, fits_field}
use Rattle.ap_desc.specs.declared.design.Design.{Design}
use Rattle.ap_desc.specs.declared.design.Field.{Field}
use Rattle.ap_desc.specs.declared.design.Format.{Format}
use Rattle.ap_desc.specs.declared.design.Instr.{Instr}
use Rattle.ap_enc.specs.Packed.{AreSideBySide, DoFit, free_width, packed, width_of}
use Rattle.ap_enc.specs.Words.{IsWordOf, first_unfit, free_field, free_fields, is_too_wide, operands_at}
use Rattle.ap_enc.proofs.Pairs.{packed_below, packed_matches, packed_operands, pairs_width}
use Rattle.ap_enc.proofs.Patterns.{IsOfFormat, each_here, format_of}
use Rattle.ap_enc.proofs.Places.{first_at, none_passes, some_and}

-- the widths of the free fields
pub widths_same : (pairs : List (Field × Option ℕ)) → filter_map free_width pairs ≡ map (λ (f : Field). f.width) (filter_map free_field pairs)
widths_same [] = refl
widths_same ((field, None) ∷ pairs) = ap (λ ws. field.width ∷ ws) (widths_same pairs)
widths_same ((field, Some v) ∷ pairs) = widths_same pairs

fit_from : (pairs : List (Field × Option ℕ)) (values : List ℕ) → length values ≡ length (filter_map free_field pairs) → list_all fits_field pairs ≡ true → Each (λ z. is_too_wide z ≡ false) (zip (filter_map free_width pairs) values)
    → DoFit pairs values
fit_from [] [] same fixed each = tt
fit_from [] (v ∷ vs) same fixed each = absurd (omega arith)
fit_from ((field, Some v) ∷ pairs) values same fixed each =
    let both = and_parts (nat_lt v (2 ^ field.width)) (list_all fits_field pairs) fixed in
    (ltb-true v (2 ^ field.width) both.0, fit_from pairs values same both.1 each)
fit_from ((field, None) ∷ pairs) [] same fixed each = absurd (omega arith)
fit_from ((field, None) ∷ pairs) (v ∷ vs) same fixed each =
    let rest : length vs ≡ length (filter_map free_field pairs) = omega arith in
    (ltb-true v (2 ^ field.width) (not-false (nat_lt v (2 ^ field.width)) each.0), fit_from pairs vs rest (and_parts (fits_field (field, None)) (list_all fits_field pairs) fixed).1 each.1)

-- the fields of an instruction beside their fixed values
abbrev pub pairs_of : Design → Instr → List (Field × Option ℕ)
pairs_of design instr = zip (fields_of design instr) instr.fixed

-- what packing needs, and what it gives
pub record IsPacked (design : Design) (place : ℕ) (values : List ℕ) (pairs : List (Field × Option ℕ)) : Type 0 where
  pub placed : AreSideBySide pairs
  pub fit : DoFit pairs values
  pub width : width_of pairs ≤ 64
  pub word : IsWordOf design place values (packed pairs values)

operands_there : (design : Design) (place : ℕ) (instr : Instr) → slice_get design.instrs place ≡ Some instr → operands_at design place ≡ filter_map free_field (pairs_of design instr)
operands_there design place instr at = ap (λ o. option_map_or (free_fields design) o []) at

-- the first operand that doesn't fit, by the fields of the instruction
unfit_there : (design : Design) (place : ℕ) (instr : Instr) (values : List ℕ) → slice_get design.instrs place ≡ Some instr
    → position is_too_wide (zip (filter_map free_width (pairs_of design instr)) values) ≡ first_unfit design place values
unfit_there design place instr values at =
    ap (λ ws. position is_too_wide (zip ws values)) (widths_same (pairs_of design instr) ∙ ap (map (λ (f : Field). f.width)) (sym (operands_there design place instr at)))

zero_above : (n k : ℕ) → n ≡ 0 * k + n
zero_above n k = omega arith

packed_word : (design : Design) → IsSound design → IsEncoded design → (place : ℕ) (instr : Instr) (values : List ℕ) → slice_get design.instrs place ≡ Some instr → length values ≡ length (operands_at design place)
    → first_unfit design place values ≡ None → IsPacked design place values (pairs_of design instr)
packed_word design sound encoded place instr values at count none =
    let f = format_of design sound place instr at in
    let of : IsOfFormat design instr f.0 = f.1 in
    let fields : fields_of design instr ≡ f.0.fields = ap (λ o. option_map_or (λ (x : Format). x.fields) o []) of.is_format in
    let pairs : pairs_of design instr ≡ zip f.0.fields instr.fixed = ap (λ fs. zip fs instr.fixed) fields in
    let fixed_fit : list_all fits_field (zip f.0.fields instr.fixed) ≡ true = rw of.is_format at (each_here (AreFixedFitting design) design.instrs encoded.fixed place instr at) in
    let placed : AreSideBySide (pairs_of design instr) = (let P : List (Field × Option ℕ) → Type 0 = AreSideBySide in subst P (sym pairs) of.placed) in
    let fixed : list_all fits_field (pairs_of design instr) ≡ true = ap (list_all fits_field) pairs ∙ fixed_fit in
    let operands : operands_at design place ≡ filter_map free_field (pairs_of design instr) = operands_there design place instr at in
    let same : length values ≡ length (filter_map free_field (pairs_of design instr)) = count ∙ ap length operands in
    let fit : DoFit (pairs_of design instr) values = fit_from (pairs_of design instr) values same fixed (none_passes is_too_wide (zip (filter_map free_width (pairs_of design instr)) values) (unfit_there design place instr values at ∙ none)) in
    let whole : width_of (pairs_of design instr) ≡ design.word =
    ap width_of pairs ∙ pairs_width f.0.fields instr.fixed of.right.fixed ∙ each_here (λ (x : Format). sum_by (λ (y : Field). y.width) x.fields ≡ design.word) design.formats encoded.sums instr.format f.0 of.is_format in
    let most : design.word ≤ 64 = leb-true design.word 64 (and_parts (nat_le 8 design.word) (nat_le design.word 64) sound.within.word).1 in
    let room : width_of (pairs_of design instr) ≤ design.word = omega arith in
    let masks : instr.fixed_mask ≡ sum_by (mask_bits design.word) (pairs_of design instr) = of.right.mask ∙ ap (sum_by (mask_bits design.word)) (sym pairs) in
    let bits : instr.fixed_value ≡ sum_by (value_bits design.word) (pairs_of design instr) = of.right.value ∙ ap (sum_by (value_bits design.word)) (sym pairs) in
    record {
      placed = placed;
      fit = fit;
      width = omega arith;
      word = record {
        fits = (let P : ℕ → Type 0 = λ n. packed (pairs_of design instr) values < 2 ^ n in subst P whole (packed_below (pairs_of design instr) values placed fit));
        matches = some_and (λ (i : Instr). Matches i (packed (pairs_of design instr) values)) (slice_get design.instrs place) instr at
            (ap (bit_and (packed (pairs_of design instr) values)) masks ∙ packed_matches design.word (pairs_of design instr) values placed fit room ∙ sym bits);
        operands = ap (map (λ (f : Field). field_value f (packed (pairs_of design instr) values))) operands
            ∙ packed_operands (pairs_of design instr) values (packed (pairs_of design instr) values) 0 placed fit (zero_above (packed (pairs_of design instr) values) (2 ^ width_of (pairs_of design instr)));
      };
    }

-- the instruction at a place, and its fields beside its fixed values, as they are read
pub record IsRead (design : Design) (place : ℕ) (fields : List Field) (fixed : List (Option ℕ)) : Type 0 where
  pub instr : Instr
  pub at : slice_get design.instrs place ≡ Some instr
  pub pairs : pairs_of design instr ≡ zip fields fixed

pub read_of : (design : Design) (instrs : List Instr) → instrs ≡ design.instrs → (place : ℕ) → place < length design.instrs → (instr : Instr) → instr ≡ get_or instrs place instr → (fields : List Field) (fixed : List (Option ℕ))
    → fields ≡ fields_of design instr → fixed ≡ instr.fixed → IsRead design place fields fixed
read_of design instrs e place lt instr is fields fixed is_fields is_fixed = record {
  instr = instr;
  at = slice_get_read design.instrs (length design.instrs) place instr refl lt (is ∙ ap (λ xs. get_or xs place instr) e);
  pairs = ap (λ fs. zip fs instr.fixed) (sym is_fields) ∙ ap (zip fields) (sym is_fixed);
}

-- the first operand that doesn't fit, by the fields that were read
pub unfit_read : (design : Design) (place : ℕ) (fields : List Field) (fixed : List (Option ℕ)) (values : List ℕ) → IsRead design place fields fixed
    → position is_too_wide (zip (filter_map free_width (zip fields fixed)) values) ≡ first_unfit design place values
unfit_read design place fields fixed values r = ap (λ ps. position is_too_wide (zip (filter_map free_width ps) values)) (sym r.pairs) ∙ unfit_there design place r.instr values r.at

pub packed_read : (design : Design) → IsSound design → IsEncoded design → (place : ℕ) (fields : List Field) (fixed : List (Option ℕ)) (values : List ℕ) → IsRead design place fields fixed
    → length values ≡ length (operands_at design place) → first_unfit design place values ≡ None → IsPacked design place values (zip fields fixed)
packed_read design sound encoded place fields fixed values r count none = subst (IsPacked design place values) r.pairs (packed_word design sound encoded place r.instr values r.at count none)

kept_more : {Y : Type 0} (o : Option Y) (ys : List Y) (n : ℕ) → length ys ≤ n → length (cons_option o ys) ≤ suc n
kept_more None ys n le = omega arith
kept_more (Some y) ys n le = omega arith

kept_few : {X Y : Type 0} (h : X → Option Y) (xs : List X) → length (filter_map h xs) ≤ length xs
kept_few h [] = omega arith
kept_few h (x ∷ xs) = kept_more (h x) (filter_map h xs) (length xs) (kept_few h xs)

-- its number is that of a field
pub unfit_small : (design : Design) → IsSound design → (place : ℕ) (fields : List Field) (fixed : List (Option ℕ)) (values : List ℕ) (n : ℕ) → IsRead design place fields fixed
    → position is_too_wide (zip (filter_map free_width (zip fields fixed)) values) ≡ Some n → n < 16
unfit_small design sound place fields fixed values n r e =
    let f = format_of design sound place r.instr r.at in
    let first = first_at is_too_wide (zip (filter_map free_width (zip fields fixed)) values) n e in
    let within : n < length (zip (filter_map free_width (zip fields fixed)) values) = slice_get_within (zip (filter_map free_width (zip fields fixed)) values) n first.item first.is_there in
    let kept : length (filter_map free_width (zip fields fixed)) ≤ length (zip fields fixed) = kept_few free_width (zip fields fixed) in
    let same : length (zip fields fixed) ≡ length (zip f.0.fields r.instr.fixed) = ap length (sym r.pairs) ∙ ap (λ o. length (zip (option_map_or (λ (x : Format). x.fields) o []) r.instr.fixed)) f.1.is_format in
    let few : length f.0.fields ≤ 16 = f.1.few in
    omega (arith, length-zip (filter_map free_width (zip fields fixed)) values, length-zip f.0.fields r.instr.fixed)
