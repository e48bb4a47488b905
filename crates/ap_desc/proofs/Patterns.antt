-- Patterns of instructions: a fixed value lies in its mask and the mask in the word, and patterns that agree share a word.
use Rattle.std.proofs.Common.{◌≡◌, ℕ, suc, ◌+◌, ◌-◌, ◌*◌, ◌^◌, ◌<◌, ◌≤◌, Bool, true, false, if◌then◌else◌, List, [], ◌∷◌, Option, Some, None, min, max, refl, ap, sym, subst, ◌∙◌, arith, pow_mono, pow_pos, leb-true, ltb-true, mod-eq_of_lt, mul-le-mul_right, sum_by}
use Rattle.std.specs.Prelude.{bit_and, bit_or, zip, slice_get, Contains, ◌↔◌, nat_le, nat_lt}
use Rattle.std.specs.Int.{bit_at}
use Rattle.std.proofs.lemmas.Bool.{and_parts}
use Rattle.std.proofs.lemmas.List.Sums.{sum_by-cons}
use Rattle.std.proofs.lemmas.Nat.{pow-add}
use Rattle.std.proofs.lemmas.Nat.Bits.{bit_at_and, bit_at_or, same_from_bits}
use lib.Bits.{and_block, and_mask, or_lt, and_le_r}
use Rattle.ap_desc.proofs.Members.{each_contained, each_get, some_and}
use Rattle.ap_desc.specs.Designs.{ArePlaced, IsInstr, IsRight, is_counted, mask_bits, value_bits}
use Rattle.ap_desc.specs.Patterns.{Agree, LiesInWord, ShareWord}
use Rattle.ap_desc.specs.Sound.{IsSound}
use Rattle.ap_desc.specs.declared.design.Design.{Design}
use Rattle.ap_desc.specs.declared.design.Format.{Format}
use Rattle.ap_desc.specs.declared.design.Field.{Field}
use Rattle.ap_desc.specs.declared.design.Instr.{Instr}

abbrev width_of : List Field → ℕ
width_of fields = sum_by (λ (x : Field). x.width) fields

abbrev mask_of : ℕ → List (Field × Option ℕ) → ℕ
mask_of word zs = sum_by (mask_bits word) zs

abbrev value_of : ℕ → List (Field × Option ℕ) → ℕ
value_of word zs = sum_by (value_bits word) zs

-- the mask lies in the fields' bits and in the word, and the value in the mask
record Lies (word width mask value : ℕ) : Type 0 where
  mask_low : mask < 2 ^ width
  value_low : value < 2 ^ width
  in_word : mask < 2 ^ word
  in_mask : bit_and value mask ≡ value

-- a number below a block's size beside the blocks below it
block_below : (k q m p : ℕ) → k < p → m < q → k * q + m < p * q
block_below k q m p below low =
    let up : suc k * q ≤ p * q = mul-le-mul_right q (omega arith) in
    omega arith

-- one more field above them that isn't fixed, or doesn't count
lies_off : (word width mask value more : ℕ) → Lies word width mask value → Lies word (more + width) (0 + mask) (0 + value)
lies_off word width mask value more l =
    let up : 2 ^ width ≤ 2 ^ (more + width) = pow_mono (omega arith) in
    let no_mask : 0 + mask ≡ mask = omega arith in
    let no_value : 0 + value ≡ value = omega arith in
    record {
      mask_low = omega (arith, l.mask_low);
      value_low = omega (arith, l.value_low);
      in_word = omega (arith, l.in_word);
      in_mask = ap (λ v. bit_and v (0 + mask)) no_value ∙ ap (λ m. bit_and value m) no_mask ∙ l.in_mask ∙ sym no_value;
    }

-- one more that counts
lies_on : (word width mask value more v : ℕ) → Lies word width mask value → width + more ≤ word → v < 2 ^ more
    → Lies word (more + width) ((2 ^ more - 1) * 2 ^ width + mask) (v * 2 ^ width + value)
lies_on word width mask value more v l fits low =
    let positive : 0 < 2 ^ more = pow_pos more in
    let whole : 2 ^ (more + width) ≡ 2 ^ more * 2 ^ width = pow-add 2 more width in
    let mask_below : (2 ^ more - 1) * 2 ^ width + mask < 2 ^ more * 2 ^ width = block_below (2 ^ more - 1) (2 ^ width) mask (2 ^ more) (omega arith) l.mask_low in
    let value_below : v * 2 ^ width + value < 2 ^ more * 2 ^ width = block_below v (2 ^ width) value (2 ^ more) low l.value_low in
    let up : 2 ^ (more + width) ≤ 2 ^ word = pow_mono (omega arith) in
    let parts = and_block width v (2 ^ more - 1) value mask l.value_low l.mask_low in
    let own : bit_and v (2 ^ more - 1) ≡ v = and_mask v more ∙ mod-eq_of_lt low in
    record {
      mask_low = rw whole mask_below;
      value_low = rw whole value_below;
      in_word = let within : (2 ^ more - 1) * 2 ^ width + mask < 2 ^ (more + width) = rw whole mask_below in omega arith;
      in_mask = parts ∙ ap (λ x. x * 2 ^ width + bit_and value mask) own ∙ ap (λ x. v * 2 ^ width + x) l.in_mask;
    }

-- one more field, that lies right above them
field_lies : (word width mask value : ℕ) (f : Field) (o : Option ℕ) → f.low ≡ width → Lies word width mask value
    → Lies word (f.width + width) (mask_bits word (f, o) + mask) (value_bits word (f, o) + value)
field_lies word width mask value f None placed rest = lies_off word width mask value f.width rest
field_lies word width mask value f (Some v) placed rest = by_test (is_counted word f v) refl where
  by_test : (b : Bool) → is_counted word f v ≡ b
      → Lies word (f.width + width) ((if b then (2 ^ f.width - 1) * 2 ^ f.low else 0) + mask) ((if b then v * 2 ^ f.low else 0) + value)
  by_test false e = lies_off word width mask value f.width rest
  by_test true e =
      let parts = and_parts (nat_le (f.low + f.width) word) (nat_lt v (2 ^ f.width)) e in
      let fits : f.low + f.width ≤ word = leb-true (f.low + f.width) word parts.0 in
      subst (λ n. Lies word (f.width + width) ((2 ^ f.width - 1) * 2 ^ n + mask) (v * 2 ^ n + value)) (sym placed)
      (lies_on word width mask value f.width v rest (subst (λ n. n + f.width ≤ word) placed fits) (ltb-true v (2 ^ f.width) parts.1))

fields_lie : (word : ℕ) (fields : List Field) (fixed : List (Option ℕ)) → ArePlaced fields
    → Lies word (width_of fields) (mask_of word (zip fields fixed)) (value_of word (zip fields fixed))
fields_lie word [] fixed placed = record { mask_low = pow_pos 0; value_low = pow_pos 0; in_word = pow_pos word; in_mask = refl }
fields_lie word (f ∷ fields) [] placed =
    let positive : 0 < 2 ^ width_of (f ∷ fields) = pow_pos (width_of (f ∷ fields)) in
    record { mask_low = positive; value_low = positive; in_word = pow_pos word; in_mask = refl }
fields_lie word (f ∷ fields) (o ∷ fixed) placed =
    let zs = zip fields fixed in
    let widths : width_of (f ∷ fields) ≡ f.width + width_of fields = sum_by-cons (λ (x : Field). x.width) f fields in
    let masks : mask_of word ((f, o) ∷ zs) ≡ mask_bits word (f, o) + mask_of word zs = sum_by-cons (mask_bits word) (f, o) zs in
    let values : value_of word ((f, o) ∷ zs) ≡ value_bits word (f, o) + value_of word zs = sum_by-cons (value_bits word) (f, o) zs in
    let here = field_lies word (width_of fields) (mask_of word zs) (value_of word zs) f o placed.0 (fields_lie word fields fixed placed.1) in
    subst (λ v. Lies word (width_of (f ∷ fields)) (mask_of word ((f, o) ∷ zs)) v) (sym values)
    (subst (λ m. Lies word (width_of (f ∷ fields)) m (value_bits word (f, o) + value_of word zs)) (sym masks)
    (subst (λ w. Lies word w (mask_bits word (f, o) + mask_of word zs) (value_bits word (f, o) + value_of word zs)) (sym widths) here))

pub pattern_lies : (design : Design) (instr : Instr) → IsSound design → Contains design.instrs instr → LiesInWord design.word instr
pattern_lies design instr sound there =
    let right = each_contained (IsRight design) design.instrs instr sound.instrs there in
    let (format, at, is) = some_and (slice_get design.formats instr.format) (λ format. IsInstr design format.fields instr) right in
    let placed = each_get (λ (f : Format). ArePlaced f.fields) design.formats instr.format format sound.formats at in
    let lies = fields_lie design.word format.fields instr.fixed placed in
    record {
      value = ap (λ v. bit_and v instr.fixed_mask) is.value ∙ ap (bit_and (value_of design.word (zip format.fields instr.fixed))) is.mask ∙ lies.in_mask ∙ sym is.value;
      mask = subst (λ m. m < 2 ^ design.word) (sym is.mask) lies.in_word;
    }

-- a bit of two values joined, under the first mask and under the second
first_bit : (b c d e : ℕ) → min b c ≡ b → min d e ≡ d → min b (min c e) ≡ min d (min c e) → min (max b d) c ≡ b
first_bit b c d e own other agree = omega arith

second_bit : (b c d e : ℕ) → min b c ≡ b → min d e ≡ d → min b (min c e) ≡ min d (min c e) → min (max b d) e ≡ d
second_bit b c d e own other agree = omega arith

-- a word's bit under the masks
word_bit : (w c e : ℕ) → min (min w c) (min c e) ≡ min (min w e) (min c e)
word_bit w c e = omega arith

module _ (v m u n : ℕ) (own : bit_and v m ≡ v) (other : bit_and u n ≡ u) (agree : bit_and v (bit_and m n) ≡ bit_and u (bit_and m n)) where
  own_at : (i : ℕ) → min (bit_at v i) (bit_at m i) ≡ bit_at v i
  own_at i = sym (bit_at_and v m i) ∙ ap (λ x. bit_at x i) own

  other_at : (i : ℕ) → min (bit_at u i) (bit_at n i) ≡ bit_at u i
  other_at i = sym (bit_at_and u n i) ∙ ap (λ x. bit_at x i) other

  both_at : (x i : ℕ) → bit_at (bit_and x (bit_and m n)) i ≡ min (bit_at x i) (min (bit_at m i) (bit_at n i))
  both_at x i = bit_at_and x (bit_and m n) i ∙ ap (λ y. min (bit_at x i) y) (bit_at_and m n i)

  agree_at : (i : ℕ) → min (bit_at v i) (min (bit_at m i) (bit_at n i)) ≡ min (bit_at u i) (min (bit_at m i) (bit_at n i))
  agree_at i = sym (both_at v i) ∙ ap (λ x. bit_at x i) agree ∙ both_at u i

  joined_at : (mask i : ℕ) → bit_at (bit_and (bit_or v u) mask) i ≡ min (max (bit_at v i) (bit_at u i)) (bit_at mask i)
  joined_at mask i = bit_at_and (bit_or v u) mask i ∙ ap (λ x. min x (bit_at mask i)) (bit_at_or v u i)

  joined_first : bit_and (bit_or v u) m ≡ v
  joined_first = same_from_bits (bit_and (bit_or v u) m) v
      (λ i. joined_at m i ∙ first_bit (bit_at v i) (bit_at m i) (bit_at u i) (bit_at n i) (own_at i) (other_at i) (agree_at i))

  joined_second : bit_and (bit_or v u) n ≡ u
  joined_second = same_from_bits (bit_and (bit_or v u) n) u
      (λ i. joined_at n i ∙ second_bit (bit_at v i) (bit_at m i) (bit_at u i) (bit_at n i) (own_at i) (other_at i) (agree_at i))

value_below : (bits : ℕ) (instr : Instr) → LiesInWord bits instr → instr.fixed_value < 2 ^ bits
value_below bits instr lies = let low = and_le_r instr.fixed_value instr.fixed_mask in rw (← lies.value) (omega (arith, lies.mask, low))

pub agreeing_share : (bits : ℕ) (one other : Instr) → LiesInWord bits one → LiesInWord bits other → Agree one other → ShareWord bits one other
agreeing_share bits one other lies lies_other agree = record {
  word = bit_or one.fixed_value other.fixed_value;
  is_word = or_lt bits one.fixed_value other.fixed_value (value_below bits one lies) (value_below bits other lies_other);
  matches = joined_first one.fixed_value one.fixed_mask other.fixed_value other.fixed_mask lies.value lies_other.value agree;
  matches_other = joined_second one.fixed_value one.fixed_mask other.fixed_value other.fixed_mask lies.value lies_other.value agree;
}

masked_alike : (w m n : ℕ) → bit_and (bit_and w m) (bit_and m n) ≡ bit_and (bit_and w n) (bit_and m n)
masked_alike w m n = same_from_bits (bit_and (bit_and w m) (bit_and m n)) (bit_and (bit_and w n) (bit_and m n)) (λ i.
    let left : bit_at (bit_and (bit_and w m) (bit_and m n)) i ≡ min (min (bit_at w i) (bit_at m i)) (min (bit_at m i) (bit_at n i)) = simp bit_at_and in
    let right : bit_at (bit_and (bit_and w n) (bit_and m n)) i ≡ min (min (bit_at w i) (bit_at n i)) (min (bit_at m i) (bit_at n i)) = simp bit_at_and in
    left ∙ word_bit (bit_at w i) (bit_at m i) (bit_at n i) ∙ sym right)

pub sharing_agree : (bits : ℕ) (one other : Instr) → ShareWord bits one other → Agree one other
sharing_agree bits one other s =
    rw (s.matches, s.matches_other) at (masked_alike s.word one.fixed_mask other.fixed_mask)

pub patterns_agree_or_not : (design : Design) (one other : Instr) → IsSound design → Contains design.instrs one → Contains design.instrs other
    → Agree one other ↔ ShareWord design.word one other
patterns_agree_or_not design one other sound there there_too = (
  agreeing_share design.word one other (pattern_lies design one sound there) (pattern_lies design other sound there_too),
  sharing_agree design.word one other,
)
