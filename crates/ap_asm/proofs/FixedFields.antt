-- A word that matches an instruction gives its fixed fields their values.
use Rattle.std.proofs.Common.{◌≡◌, ℕ, zero, suc, ◌+◌, ◌-◌, ◌*◌, ◌/◌, ◌%◌, ◌^◌, ◌<◌, ◌≤◌, true, List, [], ◌∷◌, Option, Some, sym, ap, subst, ◌∙◌, arith, sum_by}
use Rattle.std.specs.Prelude.{bit_and, nat_le, nat_lt, slice_get}
use Rattle.std.specs.List.{list_all}
use Rattle.std.proofs.lemmas.Bool.{and_from, and_parts, cond-true, le-leb, lt-ltb, ltb-true}
use Rattle.std.proofs.lemmas.Nat.{and_block, and_le_r, div-add-mod', mod_below, pow_pos, same_from_place, shr_below}
use Rattle.std.proofs.lemmas.Option.{same_Some}
use Rattle.ap_desc.specs.Designs.{field_value, is_counted, mask_bits, value_bits}
use Rattle.ap_desc.specs.Sound.{fits_field}
use Rattle.ap_desc.specs.declared.design.Field.{Field}
use Rattle.ap_enc.specs.Packed.{AreSideBySide, width_of}
use Rattle.ap_enc.proofs.Blocks.{below_by_mask, block_high, block_value, in_full_mask}
use Rattle.ap_enc.proofs.Pairs.{IsPart, mask_below, part_above, part_of, value_in_mask}

-- the pattern's bits in the highest field and in the others
record AreSplit (h mask value low_mask low_value : ℕ) : Type 0 where
  high : bit_and h mask ≡ value
  low : low_mask ≡ low_value

split_match : (k v r mask value low_mask low_value : ℕ) → r < 2 ^ k → low_mask < 2 ^ k → low_value < 2 ^ k → bit_and (v * 2 ^ k + r) (mask * 2 ^ k + low_mask) ≡ value * 2 ^ k + low_value → AreSplit v mask value (bit_and r low_mask) low_value
split_match k v r mask value low_mask low_value lr lm lv e =
    let below : bit_and r low_mask < 2 ^ k = omega (arith, and_le_r r low_mask) in
    let both = same_from_place (bit_and v mask) (bit_and r low_mask) value low_value (2 ^ k) below lv (sym (and_block k v mask r low_mask lr lm) ∙ e) in
    record { high = both.0; low = both.1 }

value_below : (bits : ℕ) (pairs : List (Field × Option ℕ)) → AreSideBySide pairs → sum_by (value_bits bits) pairs < 2 ^ width_of pairs
value_below bits pairs placed = below_by_mask (sum_by (value_bits bits) pairs) (sum_by (mask_bits bits) pairs) (2 ^ width_of pairs) (value_in_mask bits pairs placed) (mask_below bits pairs placed)

-- a fixed field's value, in a word whose lowest bits match
pub fixed_here : (bits : ℕ) (pairs : List (Field × Option ℕ)) → AreSideBySide pairs → width_of pairs ≤ bits → list_all fits_field pairs ≡ true → (word h r : ℕ) → r < 2 ^ width_of pairs → word ≡ h * 2 ^ width_of pairs + r
    → bit_and r (sum_by (mask_bits bits) pairs) ≡ sum_by (value_bits bits) pairs → (i : ℕ) (field : Field) (v : ℕ) → slice_get pairs i ≡ Some (field, Some v) → field_value field word ≡ v
fixed_here bits [] placed room fit word h r less e match i field v at = absurd cc
fixed_here bits (pair ∷ pairs) placed room fit word h r less e match i field v at =
    by (λ h2 r2 less2 e2 match2 j there. fixed_here bits pairs placed.2 (omega arith) (and_parts (fits_field pair) (list_all fits_field pairs) fit).1 word h2 r2 less2 e2 match2 j field v there) i at
  where
    k : ℕ
    k = width_of pairs

    top : ℕ
    top = r / 2 ^ width_of pairs

    rest : ℕ
    rest = r % 2 ^ width_of pairs

    rest_less : r % 2 ^ width_of pairs < 2 ^ width_of pairs
    rest_less = mod_below r (2 ^ width_of pairs) (pow_pos (width_of pairs))

    top_less : r / 2 ^ width_of pairs < 2 ^ pair.0.width
    top_less = shr_below r pair.0.width (width_of pairs) less

    whole : r ≡ r / 2 ^ width_of pairs * 2 ^ width_of pairs + r % 2 ^ width_of pairs
    whole = sym (div-add-mod' r (2 ^ width_of pairs))

    part : (mask : ℕ) × (value : ℕ) × IsPart bits pair mask value
    part = part_of bits pair

    split : AreSplit (r / 2 ^ width_of pairs) part.0 part.1 (bit_and (r % 2 ^ width_of pairs) (sum_by (mask_bits bits) pairs)) (sum_by (value_bits bits) pairs)
    split = split_match (width_of pairs) (r / 2 ^ width_of pairs) (r % 2 ^ width_of pairs) part.0 part.1 (sum_by (mask_bits bits) pairs) (sum_by (value_bits bits) pairs) rest_less (mask_below bits pairs placed.2) (value_below bits pairs placed.2)
        (sym (ap (λ n. bit_and n (part.0 * 2 ^ width_of pairs + sum_by (mask_bits bits) pairs)) whole)
        ∙ sym (ap (λ n. bit_and r n) (part_above (mask_bits bits) pair pairs part.0 part.2.masks placed.0)) ∙ match ∙ part_above (value_bits bits) pair pairs part.1 part.2.values placed.0)

    shifted : word ≡ (h * 2 ^ pair.0.width + r / 2 ^ width_of pairs) * 2 ^ width_of pairs + r % 2 ^ width_of pairs
    shifted = e ∙ ap (λ n. h * 2 ^ (pair.0.width + width_of pairs) + n) whole ∙ block_high h (r / 2 ^ width_of pairs) (r % 2 ^ width_of pairs) pair.0.width (width_of pairs)

    by : ((h2 r2 : ℕ) → r2 < 2 ^ width_of pairs → word ≡ h2 * 2 ^ width_of pairs + r2 → bit_and r2 (sum_by (mask_bits bits) pairs) ≡ sum_by (value_bits bits) pairs → (j : ℕ) → slice_get pairs j ≡ Some (field, Some v) → field_value field word ≡ v)
        → (j : ℕ) → slice_get (pair ∷ pairs) j ≡ Some (field, Some v) → field_value field word ≡ v
    by ih (suc j) there = ih (h * 2 ^ pair.0.width + r / 2 ^ width_of pairs) (r % 2 ^ width_of pairs) rest_less shifted split.low j there
    by ih zero there =
        let is : pair ≡ (field, Some v) = same_Some pair (field, Some v) there in
        let low : field.low ≡ width_of pairs = ap (λ (p : Field × Option ℕ). p.0.low) (sym is) ∙ placed.0 in
        let width : pair.0.width ≡ field.width = ap (λ (p : Field × Option ℕ). p.0.width) is in
        let fits : v < 2 ^ field.width = ltb-true v (2 ^ field.width) (sym (ap fits_field is) ∙ (and_parts (fits_field pair) (list_all fits_field pairs) fit).0) in
        let counted : is_counted bits field v ≡ true = and_from (nat_le (field.low + field.width) bits) (nat_lt v (2 ^ field.width)) (le-leb (field.low + field.width) bits (omega arith)) (lt-ltb v (2 ^ field.width) fits) in
        let mask : part.0 * 2 ^ pair.0.low ≡ (2 ^ field.width - 1) * 2 ^ field.low = sym part.2.masks ∙ ap (mask_bits bits) is ∙ cond-true (is_counted bits field v) ((2 ^ field.width - 1) * 2 ^ field.low) 0 counted in
        let value : part.1 * 2 ^ pair.0.low ≡ v * 2 ^ field.low = sym part.2.values ∙ ap (value_bits bits) is ∙ cond-true (is_counted bits field v) (v * 2 ^ field.low) 0 counted in
        let same_mask : part.0 ≡ 2 ^ field.width - 1 = same_factor part.0 (2 ^ field.width - 1) pair.0.low field.low (ap (λ (p : Field × Option ℕ). p.0.low) is) mask in
        let same_value : part.1 ≡ v = same_factor part.1 v pair.0.low field.low (ap (λ (p : Field × Option ℕ). p.0.low) is) value in
        let top_fits : r / 2 ^ width_of pairs < 2 ^ field.width = subst (λ n. r / 2 ^ width_of pairs < 2 ^ n) width top_less in
        let top_is : r / 2 ^ width_of pairs ≡ v = sym (in_full_mask (r / 2 ^ width_of pairs) field.width top_fits) ∙ ap (bit_and (r / 2 ^ width_of pairs)) (sym same_mask) ∙ split.high ∙ same_value in
        let bits_of : word ≡ h * 2 ^ (field.width + width_of pairs) + (v * 2 ^ width_of pairs + r % 2 ^ width_of pairs) =
        e ∙ ap (λ n. h * 2 ^ (n + width_of pairs) + r) width ∙ ap (λ n. h * 2 ^ (field.width + width_of pairs) + n) (whole ∙ ap (λ n. n * 2 ^ width_of pairs + r % 2 ^ width_of pairs) top_is) in
        ap (λ n. (word / 2 ^ n) % 2 ^ field.width) low ∙ ap (λ n. (n / 2 ^ width_of pairs) % 2 ^ field.width) bits_of ∙ block_value h v (r % 2 ^ width_of pairs) field.width (width_of pairs) fits rest_less
      where
        same_factor : (a b x y : ℕ) → x ≡ y → a * 2 ^ x ≡ b * 2 ^ y → a ≡ b
        same_factor a b x y same e2 =
            let zero_less : 0 < 2 ^ y = pow_pos y in
            let line : a * 2 ^ y + 0 ≡ b * 2 ^ y + 0 = (let turned : a * 2 ^ y ≡ b * 2 ^ y = ap (λ n. a * 2 ^ n) (sym same) ∙ e2 in omega arith) in
            (same_from_place a 0 b 0 (2 ^ y) zero_less zero_less line).0
