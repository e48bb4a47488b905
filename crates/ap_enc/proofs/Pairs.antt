-- Fields beside their fixed values: their masks, their values, and the words packed of them.
use Rattle.std.proofs.Common.{◌≡◌, ℕ, ◌+◌, ◌-◌, ◌*◌, ◌/◌, ◌%◌, ◌^◌, ◌<◌, ◌≤◌, ◌⊎◌, Bool, true, false, List, [], ◌∷◌, length, take, drop, get_or, map, Option, Some, None, inl, inr, refl, sym, ap, ◌∙◌, arith, sum_by}
use Rattle.std.specs.Prelude.{bit_and, nat_lt, nat_le, zip, filter_map}
use Rattle.std.specs.List.{list_all}
use Rattle.std.proofs.Math.Nat.{mod-eq_of_lt, zero-mul}
use Rattle.std.proofs.Math.Pow.{pow_mono}
use Rattle.std.proofs.lemmas.Bool.{and_from, and_parts, cond-true, cond-false, le-leb, leb-true, lt-ltb, ltb-true}
use Rattle.std.proofs.lemmas.List.Sums.{sum_by-cons}
use Rattle.std.proofs.lemmas.Nat.{pow_pos, and_block, and_le_r}
use Rattle.std.proofs.lemmas.Option.{same_Some}
use Rattle.ap_desc.specs.Designs.{ArePlaced, field_value, is_between, is_counted, mask_bits, value_bits}
use Rattle.ap_desc.specs.declared.design.Field.{Field}
use Rattle.ap_enc.specs.Packed.{AreSideBySide, DoFit, packed, width_of}
use Rattle.ap_enc.specs.Words.{free_field}
use Rattle.ap_enc.proofs.Blocks.{below_by_mask, block_below, block_high, block_value, full_mask_fits, in_full_mask}

-- the fields' widths together
pub pairs_width : (fields : List Field) (fixed : List (Option ℕ)) → length fixed ≡ length fields → width_of (zip fields fixed) ≡ sum_by (λ (x : Field). x.width) fields
pairs_width [] fixed e = refl
pairs_width (f ∷ fs) [] e = absurd (omega arith)
pairs_width (f ∷ fs) (v ∷ vs) e =
    let rest : length vs ≡ length fs = omega arith in
    ap (λ n. f.width + n) (pairs_width fs vs rest) ∙ sym (sum_by-cons (λ (x : Field). x.width) f fs)

-- the fields of a format of a sound design stand side by side
pub pairs_placed : (word : ℕ) (fields : List Field) (fixed : List (Option ℕ)) → length fixed ≡ length fields → ArePlaced fields → list_all (λ (f : Field). is_between 1 word f.width) fields ≡ true
    → AreSideBySide (zip fields fixed)
pairs_placed word [] fixed e p w = tt
pairs_placed word (f ∷ fs) [] e p w = absurd (omega arith)
pairs_placed word (f ∷ fs) (v ∷ vs) e p w =
    let rest : length vs ≡ length fs = omega arith in
    let both = and_parts (is_between 1 word f.width) (list_all (λ (f : Field). is_between 1 word f.width) fs) w in
    let low : 1 ≤ f.width = leb-true 1 f.width (and_parts (nat_le 1 f.width) (nat_le f.width word) both.0).0 in
    let some : 0 < f.width = omega arith in
    (p.0 ∙ sym (pairs_width fs vs rest), some, pairs_placed word fs vs rest p.1 both.1)

-- what one field gives the mask and the value of a pattern
pub record IsPart (bits : ℕ) (pair : Field × Option ℕ) (mask value : ℕ) : Type 0 where
  pub masks : mask_bits bits pair ≡ mask * 2 ^ pair.0.low
  pub values : value_bits bits pair ≡ value * 2 ^ pair.0.low
  pub mask_fits : mask < 2 ^ pair.0.width
  pub within : bit_and value mask ≡ value
  pub room : (pair.0.low + pair.0.width ≤ bits) ⊎ (mask ≡ 0)

counted_part : (bits : ℕ) (field : Field) (v : ℕ) → is_counted bits field v ≡ true → IsPart bits (field, Some v) (2 ^ field.width - 1) v
counted_part bits field v e = record {
  masks = cond-true (is_counted bits field v) ((2 ^ field.width - 1) * 2 ^ field.low) 0 e;
  values = cond-true (is_counted bits field v) (v * 2 ^ field.low) 0 e;
  mask_fits = full_mask_fits field.width;
  within = in_full_mask v field.width (ltb-true v (2 ^ field.width) (and_parts (nat_le (field.low + field.width) bits) (nat_lt v (2 ^ field.width)) e).1);
  room = inl (leb-true (field.low + field.width) bits (and_parts (nat_le (field.low + field.width) bits) (nat_lt v (2 ^ field.width)) e).0);
}

uncounted_part : (bits : ℕ) (field : Field) (v : ℕ) → is_counted bits field v ≡ false → IsPart bits (field, Some v) 0 0
uncounted_part bits field v e = record {
  masks = cond-false (is_counted bits field v) ((2 ^ field.width - 1) * 2 ^ field.low) 0 e ∙ sym (zero-mul (2 ^ field.low));
  values = cond-false (is_counted bits field v) (v * 2 ^ field.low) 0 e ∙ sym (zero-mul (2 ^ field.low));
  mask_fits = pow_pos field.width;
  within = refl;
  room = inr refl;
}

free_part : (bits : ℕ) (field : Field) → IsPart bits (field, None) 0 0
free_part bits field = record {
  masks = sym (zero-mul (2 ^ field.low));
  values = sym (zero-mul (2 ^ field.low));
  mask_fits = pow_pos field.width;
  within = refl;
  room = inr refl;
}

part_counted : (bits : ℕ) (field : Field) (v : ℕ) (t : Bool) → is_counted bits field v ≡ t → (mask : ℕ) × (value : ℕ) × IsPart bits (field, Some v) mask value
part_counted bits field v true e = (2 ^ field.width - 1, v, counted_part bits field v e)
part_counted bits field v false e = (0, 0, uncounted_part bits field v e)

pub part_of : (bits : ℕ) (pair : Field × Option ℕ) → (mask : ℕ) × (value : ℕ) × IsPart bits pair mask value
part_of bits (field, None) = (0, 0, free_part bits field)
part_of bits (field, Some v) = part_counted bits field v (is_counted bits field v) refl

-- the first field's part stands right above the sum of the others
pub part_above : (g : Field × Option ℕ → ℕ) (pair : Field × Option ℕ) (pairs : List (Field × Option ℕ)) (m : ℕ) → g pair ≡ m * 2 ^ pair.0.low → pair.0.low ≡ width_of pairs
    → sum_by g (pair ∷ pairs) ≡ m * 2 ^ width_of pairs + sum_by g pairs
part_above g pair pairs m e low = sum_by-cons g pair pairs ∙ ap (λ n. n + sum_by g pairs) (e ∙ ap (λ k. m * 2 ^ k) low)

less_at : (a b c : ℕ) → a ≡ b → b < c → a < c
less_at a b c e lt = omega arith

pub mask_below : (bits : ℕ) (pairs : List (Field × Option ℕ)) → AreSideBySide pairs → sum_by (mask_bits bits) pairs < 2 ^ width_of pairs
mask_below bits [] placed = pow_pos 0
mask_below bits (pair ∷ pairs) placed =
    let p = part_of bits pair in
    less_at (sum_by (mask_bits bits) (pair ∷ pairs)) (p.0 * 2 ^ width_of pairs + sum_by (mask_bits bits) pairs) (2 ^ (pair.0.width + width_of pairs))
    (part_above (mask_bits bits) pair pairs p.0 p.2.masks placed.0)
    (block_below p.0 (sum_by (mask_bits bits) pairs) pair.0.width (width_of pairs) p.2.mask_fits (mask_below bits pairs placed.2))

-- the fixed value of a pattern lies in its mask
pub value_in_mask : (bits : ℕ) (pairs : List (Field × Option ℕ)) → AreSideBySide pairs → bit_and (sum_by (value_bits bits) pairs) (sum_by (mask_bits bits) pairs) ≡ sum_by (value_bits bits) pairs
value_in_mask bits [] placed = refl
value_in_mask bits (pair ∷ pairs) placed =
    let p = part_of bits pair in
    let k : ℕ = width_of pairs in
    let low = value_in_mask bits pairs placed.2 in
    let mask_less = mask_below bits pairs placed.2 in
    let value_less : sum_by (value_bits bits) pairs < 2 ^ width_of pairs = below_by_mask (sum_by (value_bits bits) pairs) (sum_by (mask_bits bits) pairs) (2 ^ width_of pairs) low mask_less in
    let values : sum_by (value_bits bits) (pair ∷ pairs) ≡ p.1 * 2 ^ width_of pairs + sum_by (value_bits bits) pairs = part_above (value_bits bits) pair pairs p.1 p.2.values placed.0 in
    let masks : sum_by (mask_bits bits) (pair ∷ pairs) ≡ p.0 * 2 ^ width_of pairs + sum_by (mask_bits bits) pairs = part_above (mask_bits bits) pair pairs p.0 p.2.masks placed.0 in
    ap (λ n. bit_and n (sum_by (mask_bits bits) (pair ∷ pairs))) values
    ∙ ap (λ n. bit_and (p.1 * 2 ^ width_of pairs + sum_by (value_bits bits) pairs) n) masks
    ∙ and_block (width_of pairs) p.1 p.0 (sum_by (value_bits bits) pairs) (sum_by (mask_bits bits) pairs) value_less mask_less
    ∙ ap (λ n. n * 2 ^ width_of pairs + bit_and (sum_by (value_bits bits) pairs) (sum_by (mask_bits bits) pairs)) p.2.within
    ∙ ap (λ n. p.1 * 2 ^ width_of pairs + n) low
    ∙ sym values

-- the mask of a pattern lies in the word
pub mask_within : (bits : ℕ) (pairs : List (Field × Option ℕ)) → AreSideBySide pairs → sum_by (mask_bits bits) pairs < 2 ^ bits
mask_within bits [] placed = pow_pos bits
mask_within bits (pair ∷ pairs) placed =
    let p = part_of bits pair in
    let rest : sum_by (mask_bits bits) pairs < 2 ^ bits = mask_within bits pairs placed.2 in
    let whole : sum_by (mask_bits bits) (pair ∷ pairs) < 2 ^ (pair.0.width + width_of pairs) = mask_below bits (pair ∷ pairs) placed in
    let masks : sum_by (mask_bits bits) (pair ∷ pairs) ≡ p.0 * 2 ^ width_of pairs + sum_by (mask_bits bits) pairs = part_above (mask_bits bits) pair pairs p.0 p.2.masks placed.0 in
    elim p.2.room [
      | inl fits ↦ (let within : pair.0.width + width_of pairs ≤ bits = (let at : pair.0.low ≡ width_of pairs = placed.0 in omega arith) in
          let more : 2 ^ (pair.0.width + width_of pairs) ≤ 2 ^ bits = pow_mono within in
          omega arith)
      | inr none ↦ less_at (sum_by (mask_bits bits) (pair ∷ pairs)) (sum_by (mask_bits bits) pairs) (2 ^ bits)
          (masks ∙ ap (λ m. m * 2 ^ width_of pairs + sum_by (mask_bits bits) pairs) none ∙ ap (λ n. n + sum_by (mask_bits bits) pairs) (zero-mul (2 ^ width_of pairs)) ∙ zero_left (sum_by (mask_bits bits) pairs)) rest
    ]
  where
    zero_left : (n : ℕ) → 0 + n ≡ n
    zero_left n = omega arith

-- a packed word fits the widths together
pub packed_below : (pairs : List (Field × Option ℕ)) (values : List ℕ) → AreSideBySide pairs → DoFit pairs values → packed pairs values < 2 ^ width_of pairs
packed_below [] [] placed fit = pow_pos 0
packed_below [] (v ∷ vs) placed fit = absurd fit
packed_below ((field, Some fixed) ∷ pairs) values placed fit =
    less_at (fixed * 2 ^ field.low + packed pairs values) (fixed * 2 ^ width_of pairs + packed pairs values) (2 ^ (field.width + width_of pairs))
    (ap (λ k. fixed * 2 ^ k + packed pairs values) placed.0) (block_below fixed (packed pairs values) field.width (width_of pairs) fit.0 (packed_below pairs values placed.2 fit.1))
packed_below ((field, None) ∷ pairs) [] placed fit = absurd fit
packed_below ((field, None) ∷ pairs) (v ∷ vs) placed fit =
    less_at (v * 2 ^ field.low + packed pairs vs) (v * 2 ^ width_of pairs + packed pairs vs) (2 ^ (field.width + width_of pairs))
    (ap (λ k. v * 2 ^ k + packed pairs vs) placed.0) (block_below v (packed pairs vs) field.width (width_of pairs) fit.0 (packed_below pairs vs placed.2 fit.1))

-- what stands above the first field stands above the others, with the first field's value
shifted_high : (word h v k width : ℕ) (rest : ℕ) (low : ℕ) → low ≡ k → word ≡ h * 2 ^ (width + k) + (v * 2 ^ low + rest) → word ≡ (h * 2 ^ width + v) * 2 ^ k + rest
shifted_high word h v k width rest low e is = is ∙ ap (λ j. h * 2 ^ (width + k) + (v * 2 ^ j + rest)) e ∙ block_high h v rest width k

field_of_block : (word h v k : ℕ) (field : Field) (rest : ℕ) → field.low ≡ k → v < 2 ^ field.width → rest < 2 ^ k → word ≡ h * 2 ^ (field.width + k) + (v * 2 ^ field.low + rest) → field_value field word ≡ v
field_of_block word h v k field rest e fits less is =
    let at : word ≡ h * 2 ^ (field.width + k) + (v * 2 ^ k + rest) = is ∙ ap (λ j. h * 2 ^ (field.width + k) + (v * 2 ^ j + rest)) e in
    ap (λ j. (word / 2 ^ j) % 2 ^ field.width) e ∙ ap (λ n. (n / 2 ^ k) % 2 ^ field.width) at ∙ block_value h v rest field.width k fits less

cons_same : (x y : ℕ) (xs ys : List ℕ) → x ≡ y → xs ≡ ys → x ∷ xs ≡ y ∷ ys
cons_same x y xs ys e es = cc

-- the operands' values of a packed word are those that were packed, whatever stands above
pub packed_operands : (pairs : List (Field × Option ℕ)) (values : List ℕ) (word h : ℕ) → AreSideBySide pairs → DoFit pairs values → word ≡ h * 2 ^ width_of pairs + packed pairs values
    → map (λ (f : Field). field_value f word) (filter_map free_field pairs) ≡ values
packed_operands [] [] word h placed fit e = refl
packed_operands [] (v ∷ vs) word h placed fit e = absurd fit
packed_operands ((field, Some fixed) ∷ pairs) values word h placed fit e =
    packed_operands pairs values word (h * 2 ^ field.width + fixed) placed.2 fit.1 (shifted_high word h fixed (width_of pairs) field.width (packed pairs values) field.low placed.0 e)
packed_operands ((field, None) ∷ pairs) [] word h placed fit e = absurd fit
packed_operands ((field, None) ∷ pairs) (v ∷ vs) word h placed fit e =
    cons_same (field_value field word) v (map (λ (f : Field). field_value f word) (filter_map free_field pairs)) vs
    (field_of_block word h v (width_of pairs) field (packed pairs vs) placed.0 fit.0 (packed_below pairs vs placed.2 fit.1) e)
    (packed_operands pairs vs word (h * 2 ^ field.width + v) placed.2 fit.1 (shifted_high word h v (width_of pairs) field.width (packed pairs vs) field.low placed.0 e))

-- one more field of a packed word under the mask
masked_more : (bits : ℕ) (field : Field) (o : Option ℕ) (pairs : List (Field × Option ℕ)) (v rest : ℕ) (p : (mask : ℕ) × (value : ℕ) × IsPart bits (field, o) mask value)
    → field.low ≡ width_of pairs → AreSideBySide pairs → rest < 2 ^ width_of pairs → bit_and v p.0 ≡ p.1 → bit_and rest (sum_by (mask_bits bits) pairs) ≡ sum_by (value_bits bits) pairs
    → bit_and (v * 2 ^ field.low + rest) (sum_by (mask_bits bits) ((field, o) ∷ pairs)) ≡ sum_by (value_bits bits) ((field, o) ∷ pairs)
masked_more bits field o pairs v rest p low placed less here later =
    ap (λ k. bit_and (v * 2 ^ k + rest) (sum_by (mask_bits bits) ((field, o) ∷ pairs))) low
    ∙ ap (λ n. bit_and (v * 2 ^ width_of pairs + rest) n) (part_above (mask_bits bits) (field, o) pairs p.0 p.2.masks low)
    ∙ and_block (width_of pairs) v p.0 rest (sum_by (mask_bits bits) pairs) less (mask_below bits pairs placed)
    ∙ ap (λ n. n * 2 ^ width_of pairs + bit_and rest (sum_by (mask_bits bits) pairs)) here
    ∙ ap (λ n. p.1 * 2 ^ width_of pairs + n) later
    ∙ sym (part_above (value_bits bits) (field, o) pairs p.1 p.2.values low)

and_none : (v : ℕ) → bit_and v 0 ≡ 0
and_none v = omega (arith, and_le_r v 0)

-- a packed word has the fixed values in the bits of the mask
pub packed_matches : (bits : ℕ) (pairs : List (Field × Option ℕ)) (values : List ℕ) → AreSideBySide pairs → DoFit pairs values → width_of pairs ≤ bits
    → bit_and (packed pairs values) (sum_by (mask_bits bits) pairs) ≡ sum_by (value_bits bits) pairs
packed_matches bits [] [] placed fit room = refl
packed_matches bits [] (v ∷ vs) placed fit room = absurd fit
packed_matches bits ((field, Some fixed) ∷ pairs) values placed fit room =
    let low : field.low ≡ width_of pairs = placed.0 in
    let within : field.low + field.width ≤ bits = omega arith in
    let later : width_of pairs ≤ bits = omega arith in
    let counted : is_counted bits field fixed ≡ true = and_from (nat_le (field.low + field.width) bits) (nat_lt fixed (2 ^ field.width)) (le-leb (field.low + field.width) bits within) (lt-ltb fixed (2 ^ field.width) fit.0) in
    masked_more bits field (Some fixed) pairs fixed (packed pairs values) (2 ^ field.width - 1, fixed, counted_part bits field fixed counted) low placed.2
    (packed_below pairs values placed.2 fit.1) (in_full_mask fixed field.width fit.0) (packed_matches bits pairs values placed.2 fit.1 later)
packed_matches bits ((field, None) ∷ pairs) [] placed fit room = absurd fit
packed_matches bits ((field, None) ∷ pairs) (v ∷ vs) placed fit room =
    let later : width_of pairs ≤ bits = omega arith in
    masked_more bits field None pairs v (packed pairs vs) (0, 0, free_part bits field) placed.0 placed.2
    (packed_below pairs vs placed.2 fit.1) (and_none v) (packed_matches bits pairs vs placed.2 fit.1 later)

take_whole : {X : Type 0} (xs : List X) → take (length xs) xs ≡ xs
take_whole [] = refl
take_whole (x ∷ xs) = ap (λ ys. x ∷ ys) (take_whole xs)

-- what stands after the first
after_first : {X : Type 0} (x : X) (xs : List X) → take (length (x ∷ xs) - 1) (drop 1 (x ∷ xs)) ≡ xs
after_first x xs = let e : length (x ∷ xs) - 1 ≡ length xs = omega arith in ap (λ n. take n (drop 1 (x ∷ xs))) e ∙ take_whole xs

abbrev others : {X : Type 0} → List X → List X
others xs = take (length xs - 1) (drop 1 xs)

-- a word packed of a fixed field and the others
pub packed_fixed : (fields : List Field) (fixed : List (Option ℕ)) (values : List ℕ) (field : Field) (v : ℕ) → 1 ≤ length fields → 1 ≤ length fixed → field ≡ get_or fields 0 field → get_or fixed 0 None ≡ Some v
    → packed (zip fields fixed) values ≡ v * 2 ^ field.low + packed (zip (take (length fields - 1) (drop 1 fields)) (take (length fixed - 1) (drop 1 fixed))) values
packed_fixed [] fixed values field v some more a b = absurd (omega arith)
packed_fixed (f ∷ fs) [] values field v some more a b = absurd (omega arith)
packed_fixed (f ∷ fs) (None ∷ os) values field v some more a b = absurd cc
packed_fixed (f ∷ fs) (Some u ∷ os) values field v some more a b =
    let rest : zip (others (f ∷ fs)) (others (Some u ∷ os)) ≡ zip fs os = ap (λ xs. zip xs (others (Some u ∷ os))) (after_first f fs) ∙ ap (zip fs) (after_first (Some u) os) in
    let same : u ≡ v = same_Some u v b in
    ap (λ n. n * 2 ^ f.low + packed (zip fs os) values) same ∙ ap (λ (x : Field). v * 2 ^ x.low + packed (zip fs os) values) (sym a) ∙ ap (λ ps. v * 2 ^ field.low + packed ps values) (sym rest)

-- a word packed of a free field and the others
pub packed_free : (fields : List Field) (fixed : List (Option ℕ)) (values : List ℕ) (field : Field) → 1 ≤ length fields → 1 ≤ length fixed → 1 ≤ length values → field ≡ get_or fields 0 field → get_or fixed 0 None ≡ None
    → packed (zip fields fixed) values ≡ get_or values 0 0 * 2 ^ field.low + packed (zip (take (length fields - 1) (drop 1 fields)) (take (length fixed - 1) (drop 1 fixed))) (take (length values - 1) (drop 1 values))
packed_free [] fixed values field some more most a b = absurd (omega arith)
packed_free (f ∷ fs) [] values field some more most a b = absurd (omega arith)
packed_free (f ∷ fs) (Some u ∷ os) values field some more most a b = absurd cc
packed_free (f ∷ fs) (None ∷ os) [] field some more most a b = absurd (omega arith)
packed_free (f ∷ fs) (None ∷ os) (v ∷ vs) field some more most a b =
    let rest : zip (others (f ∷ fs)) (others (None ∷ os)) ≡ zip fs os = ap (λ xs. zip xs (others (None ∷ os))) (after_first f fs) ∙ ap (zip fs) (after_first None os) in
    ap (λ (x : Field). v * 2 ^ x.low + packed (zip fs os) vs) (sym a) ∙ ap (λ ps. v * 2 ^ field.low + packed ps vs) (sym rest) ∙ ap (λ ws. v * 2 ^ field.low + packed (zip (others (f ∷ fs)) (others (None ∷ os))) ws) (sym (after_first v vs))

-- the whole fits a word, and so do its two parts
pub packed_fits : (pairs : List (Field × Option ℕ)) (values : List ℕ) → AreSideBySide pairs → DoFit pairs values → width_of pairs ≤ 64 → packed pairs values < 2 ^ 64
packed_fits pairs values placed fit width =
    let less : packed pairs values < 2 ^ width_of pairs = packed_below pairs values placed fit in
    let more : 2 ^ width_of pairs ≤ 2 ^ 64 = pow_mono width in
    omega arith

pub part_fits : (whole a rest : ℕ) → whole ≡ a + rest → whole < 2 ^ 64 → a % 2 ^ 64 ≡ a
part_fits whole a rest e lt = let less : a < 2 ^ 64 = omega arith in mod-eq_of_lt less

-- both parts of a word that fits, side by side
pub both_fit : (whole a rest : ℕ) → whole ≡ a + rest → whole < 2 ^ 64 → a % 2 ^ 64 + rest ≡ whole
both_fit whole a rest e lt = ap (λ n. n + rest) (part_fits whole a rest e lt) ∙ sym e
