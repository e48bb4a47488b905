-- The bits that an instr line fixes lie in the code word.
use Rattle.std.proofs.Common.{◌≡◌, ℕ, suc, ◌+◌, ◌-◌, ◌*◌, ◌%◌, ◌^◌, ◌<◌, ◌≤◌, nat_le, nat_lt, Bool, true, false, List, [], ◌∷◌, map, min, Option, Some, None, refl, sym, ap, subst, ◌∙◌, arith, pow_mono, pow_pos, leb-true, ltb-true, mul-le-mul_right, sum_by}
use Rattle.std.specs.Prelude.{zip, if◌then◌else◌}
use Rattle.std.proofs.lemmas.Bool.{and_parts}
use Rattle.std.proofs.lemmas.List.Sums.{sum_by-cons}
use Rattle.std.proofs.lemmas.Nat.{pow-add}
use Rattle.std.proofs.Math.Nat.{mod-eq_of_lt}
use Rattle.ap_desc.specs.declared.design.Field.{Field}
use Rattle.ap_desc.specs.declared.statement.FieldNumber.{FieldNumber}
use Rattle.ap_desc.specs.Designs.{ArePlaced, is_counted, mask_bits, value_bits}
use Rattle.ap_desc.specs.Instructions.{fixed_of}
use Rattle.ap_check.specs.FixedBits.{mask_of, value_of}

abbrev total : List Field → ℕ
total fields = sum_by (λ (x : Field). x.width) fields

-- a number below a block's size beside the blocks below it
block_below : (k q m p : ℕ) → k < p → m < q → k * q + m < p * q
block_below k q m p below low =
    let up : suc k * q ≤ p * q = mul-le-mul_right q (omega arith) in
    omega arith

-- a value of a field's bits at its place in a word of at most 64 bits
shifted_low : (word low width k : ℕ) → word ≤ 64 → low + width ≤ word → k < 2 ^ width → k * 2 ^ low < 18446744073709551616
shifted_low word low width k small fits below =
    let within : width + low ≤ 64 = omega arith in
    let up : 2 ^ (width + low) ≤ 2 ^ 64 = pow_mono within in
    let whole : 2 ^ (width + low) ≡ 2 ^ width * 2 ^ low = pow-add 2 width low in
    let block : k * 2 ^ low + 0 < 2 ^ width * 2 ^ low = block_below k (2 ^ low) 0 (2 ^ width) below (pow_pos low) in
    omega arith

pub mask_shifted : (word : ℕ) (field : Field) (value ones : ℕ) → word ≤ 64 → is_counted word field value ≡ true → ones ≡ 2 ^ field.width - 1 → ones * 2 ^ field.low % 18446744073709551616 ≡ mask_bits word (field, Some value)
mask_shifted word field value ones small counted e =
    let parts = and_parts (nat_le (field.low + field.width) word) (nat_lt value (2 ^ field.width)) counted in
    let fits : field.low + field.width ≤ word = leb-true (field.low + field.width) word parts.0 in
    let positive : 0 < 2 ^ field.width = pow_pos field.width in
    let low : (2 ^ field.width - 1) * 2 ^ field.low < 18446744073709551616 = shifted_low word field.low field.width (2 ^ field.width - 1) small fits (omega arith) in
    ap (λ x. x * 2 ^ field.low % 18446744073709551616) e
    ∙ subst (λ (b : Bool). (2 ^ field.width - 1) * 2 ^ field.low % 18446744073709551616 ≡ (if b then (2 ^ field.width - 1) * 2 ^ field.low else 0)) (sym counted) (mod-eq_of_lt low)

pub value_shifted : (word : ℕ) (field : Field) (value : ℕ) → word ≤ 64 → is_counted word field value ≡ true → value * 2 ^ field.low % 18446744073709551616 ≡ value_bits word (field, Some value)
value_shifted word field value small counted =
    let parts = and_parts (nat_le (field.low + field.width) word) (nat_lt value (2 ^ field.width)) counted in
    let fits : field.low + field.width ≤ word = leb-true (field.low + field.width) word parts.0 in
    let low : value * 2 ^ field.low < 18446744073709551616 = shifted_low word field.low field.width value small fits (ltb-true value (2 ^ field.width) parts.1) in
    subst (λ (b : Bool). value * 2 ^ field.low % 18446744073709551616 ≡ (if b then value * 2 ^ field.low else 0)) (sym counted) (mod-eq_of_lt low)

-- a number of the fields so far and of the word
record LiesLow (word width n : ℕ) : Type 0 where
  below : n < 2 ^ width
  in_word : n < 2 ^ word

-- one more field that doesn't count, and one that does
low_off : (word width more n : ℕ) → LiesLow word width n → LiesLow word (more + width) (0 + n)
low_off word width more n l =
    let up : 2 ^ width ≤ 2 ^ (more + width) = pow_mono (omega arith) in
    record { below = omega (arith, l.below); in_word = omega (arith, l.in_word) }

low_on : (word width more n k : ℕ) → LiesLow word width n → width + more ≤ word → k < 2 ^ more → LiesLow word (more + width) (k * 2 ^ width + n)
low_on word width more n k l fits low =
    let whole : 2 ^ (more + width) ≡ 2 ^ more * 2 ^ width = pow-add 2 more width in
    let below : k * 2 ^ width + n < 2 ^ more * 2 ^ width = block_below k (2 ^ width) n (2 ^ more) low l.below in
    let up : 2 ^ (more + width) ≤ 2 ^ word = pow_mono (omega arith) in
    let within : k * 2 ^ width + n < 2 ^ (more + width) = rw whole below in
    record { below = within; in_word = omega arith }

field_masks : (word width n : ℕ) (f : Field) (o : Option ℕ) → f.low ≡ width → LiesLow word width n → LiesLow word (f.width + width) (mask_bits word (f, o) + n)
field_masks word width n f None placed l = low_off word width f.width n l
field_masks word width n f (Some v) placed l = go (is_counted word f v) refl where
  go : (b : Bool) → is_counted word f v ≡ b → LiesLow word (f.width + width) ((if b then (2 ^ f.width - 1) * 2 ^ f.low else 0) + n)
  go false e = low_off word width f.width n l
  go true e =
      let parts = and_parts (nat_le (f.low + f.width) word) (nat_lt v (2 ^ f.width)) e in
      let fits : f.low + f.width ≤ word = leb-true (f.low + f.width) word parts.0 in
      let positive : 0 < 2 ^ f.width = pow_pos f.width in
      subst (λ x. LiesLow word (f.width + width) ((2 ^ f.width - 1) * 2 ^ x + n)) (sym placed)
      (low_on word width f.width n (2 ^ f.width - 1) l (subst (λ x. x + f.width ≤ word) placed fits) (omega arith))

field_values : (word width n : ℕ) (f : Field) (o : Option ℕ) → f.low ≡ width → LiesLow word width n → LiesLow word (f.width + width) (value_bits word (f, o) + n)
field_values word width n f None placed l = low_off word width f.width n l
field_values word width n f (Some v) placed l = go (is_counted word f v) refl where
  go : (b : Bool) → is_counted word f v ≡ b → LiesLow word (f.width + width) ((if b then v * 2 ^ f.low else 0) + n)
  go false e = low_off word width f.width n l
  go true e =
      let parts = and_parts (nat_le (f.low + f.width) word) (nat_lt v (2 ^ f.width)) e in
      let fits : f.low + f.width ≤ word = leb-true (f.low + f.width) word parts.0 in
      subst (λ x. LiesLow word (f.width + width) (v * 2 ^ x + n)) (sym placed)
      (low_on word width f.width n v l (subst (λ x. x + f.width ≤ word) placed fits) (ltb-true v (2 ^ f.width) parts.1))

-- the sums over fields that are placed
module _ (word : ℕ) (fixed : List FieldNumber) where
  masks_low : (fields : List Field) → ArePlaced fields → LiesLow word (total fields) (sum_by (mask_of word fixed) fields)
  masks_low [] placed = record { below = pow_pos 0; in_word = pow_pos word }
  masks_low (f ∷ fields) placed =
      let widths = sum_by-cons (λ (x : Field). x.width) f fields in
      let sums = sum_by-cons (mask_of word fixed) f fields in
      subst (λ n. LiesLow word (total (f ∷ fields)) n) (sym sums)
      (subst (λ w. LiesLow word w (mask_of word fixed f + sum_by (mask_of word fixed) fields)) (sym widths)
      (field_masks word (total fields) (sum_by (mask_of word fixed) fields) f (fixed_of fixed f) placed.0 (masks_low fields placed.1)))

  values_low : (fields : List Field) → ArePlaced fields → LiesLow word (total fields) (sum_by (value_of word fixed) fields)
  values_low [] placed = record { below = pow_pos 0; in_word = pow_pos word }
  values_low (f ∷ fields) placed =
      let widths = sum_by-cons (λ (x : Field). x.width) f fields in
      let sums = sum_by-cons (value_of word fixed) f fields in
      subst (λ n. LiesLow word (total (f ∷ fields)) n) (sym sums)
      (subst (λ w. LiesLow word w (value_of word fixed f + sum_by (value_of word fixed) fields)) (sym widths)
      (field_values word (total fields) (sum_by (value_of word fixed) fields) f (fixed_of fixed f) placed.0 (values_low fields placed.1)))

  -- side by side with the values, the sums are the same
  zipped : (g : Field × Option ℕ → ℕ) (fields : List Field) → sum_by (λ (f : Field). g (f, fixed_of fixed f)) fields ≡ sum_by g (zip fields (map (fixed_of fixed) fields))
  zipped g [] = refl
  zipped g (f ∷ fields) = sum_by-cons (λ (x : Field). g (x, fixed_of fixed x)) f fields ∙ ap (λ n. g (f, fixed_of fixed f) + n) (zipped g fields) ∙ sym (sum_by-cons g (f, fixed_of fixed f) (zip fields (map (fixed_of fixed) fields)))

  -- in a word of at most 64 bits no sum is cut off
  pub masks_whole : (fields : List Field) → word ≤ 64 → ArePlaced fields → min (sum_by (mask_of word fixed) fields) 18446744073709551615 ≡ sum_by (mask_bits word) (zip fields (map (fixed_of fixed) fields))
  masks_whole fields small placed =
      let up : 2 ^ word ≤ 2 ^ 64 = pow_mono small in
      let low : sum_by (mask_of word fixed) fields < 2 ^ word = (masks_low fields placed).in_word in
      let whole : min (sum_by (mask_of word fixed) fields) 18446744073709551615 ≡ sum_by (mask_of word fixed) fields = omega arith in
      whole ∙ zipped (mask_bits word) fields

  pub values_whole : (fields : List Field) → word ≤ 64 → ArePlaced fields → min (sum_by (value_of word fixed) fields) 18446744073709551615 ≡ sum_by (value_bits word) (zip fields (map (fixed_of fixed) fields))
  values_whole fields small placed =
      let up : 2 ^ word ≤ 2 ^ 64 = pow_mono small in
      let low : sum_by (value_of word fixed) fields < 2 ^ word = (values_low fields placed).in_word in
      let whole : min (sum_by (value_of word fixed) fields) 18446744073709551615 ≡ sum_by (value_of word fixed) fields = omega arith in
      whole ∙ zipped (value_bits word) fields
