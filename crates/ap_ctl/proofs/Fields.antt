-- A word matches an instruction exactly where the fields that it fixes have their values.
use Rattle.std.proofs.Common.{◌≡◌, ℕ, zero, suc, ◌+◌, ◌-◌, ◌*◌, ◌/◌, ◌%◌, ◌^◌, ◌<◌, ◌≤◌, Bool, true, false, List, [], ◌∷◌, ◌++◌, length, Option, Some, None, refl, sym, ap, subst, ◌∙◌, arith, pow_mono, pow_pos, sum_by}
use Rattle.std.specs.Prelude.{◌==◌, ◌&&◌, bit_and, nat_le, nat_lt, filter_map, zip, slice_get, IsSomeAnd, IsTrue}
use Rattle.std.specs.List.{AllByRecursion as Each, list_all}
use Rattle.std.specs.Option.{option_map_or}
use Rattle.std.proofs.lemmas.Bool.{and_from, and_parts, eq-eqb, eqb-true, le-leb, leb-true, ltb-true}
use Rattle.std.proofs.lemmas.List.Elements.{All-contains, All-from_recursion}
use Rattle.std.proofs.lemmas.List.Sums.{sum_by-cons}
use Rattle.std.proofs.lemmas.Nat.{and_block, and_le_r, and_mask, mod_low, pow-add, shr_high}
use Rattle.ap_desc.specs.Clean.{IsClean}
use Rattle.ap_desc.specs.Designs.{ArePlaced, IsInstr, IsRight, is_between, is_counted, is_format_within, mask_bits, value_bits}
use Rattle.ap_desc.specs.Sound.{AreFixedFitting, IsEncoded, fits_field}
use Rattle.ap_desc.specs.declared.design.Design.{Design}
use Rattle.ap_desc.specs.declared.design.Field.{Field}
use Rattle.ap_desc.specs.declared.design.Format.{Format}
use Rattle.ap_desc.specs.declared.design.Instr.{Instr}
use Rattle.ap_model.specs.Fire.{is_match}
use Rattle.ap_ctl.specs.declared.field.FieldTest.{FieldTest}
use Rattle.ap_ctl.specs.Decoding.{FitsWord, MatchesByFields, passes, test_of, tests_of}

-- two tests are one where each holds with the other
pub same_truth : (p q : Bool) → (p ≡ true → q ≡ true) → (q ≡ true → p ≡ true) → p ≡ q
same_truth true true f g = refl
same_truth true false f g = sym (f refl)
same_truth false true f g = g refl
same_truth false false f g = refl

-- numbers of two blocks are the same exactly where the blocks are
blocks_same : (a v b w k : ℕ) → b < 2 ^ k → w < 2 ^ k → (a * 2 ^ k + b == v * 2 ^ k + w) ≡ ((a == v) && (b == w))
blocks_same a v b w k lb lw = same_truth (a * 2 ^ k + b == v * 2 ^ k + w) ((a == v) && (b == w))
    (λ e.
    let same : a * 2 ^ k + b ≡ v * 2 ^ k + w = eqb-true (a * 2 ^ k + b) (v * 2 ^ k + w) e in
    let high : a ≡ v = sym (shr_high a k b lb) ∙ ap (λ n. n / 2 ^ k) same ∙ shr_high v k w lw in
    let low : b ≡ w = sym (mod_low a k b lb) ∙ ap (λ n. n % 2 ^ k) same ∙ mod_low v k w lw in
    and_from (a == v) (b == w) (eq-eqb a v high) (eq-eqb b w low))
    (λ e.
    let parts = and_parts (a == v) (b == w) e in
    let high : a ≡ v = eqb-true a v parts.0 in
    let low : b ≡ w = eqb-true b w parts.1 in
    eq-eqb (a * 2 ^ k + b) (v * 2 ^ k + w) (ap (λ n. n * 2 ^ k + b) high ∙ ap (λ n. v * 2 ^ k + n) low))

-- a word is its high bits beside its low ones
word_split : (word k : ℕ) → (word / 2 ^ k) * 2 ^ k + word % 2 ^ k ≡ word
word_split word k = let some : 0 < 2 ^ k = pow_pos k in omega arith

-- the bits of a mask of low bits are those of the word's low bits
low_mask : (word k m : ℕ) → m < 2 ^ k → bit_and word m ≡ bit_and (word % 2 ^ k) m
low_mask word k m lt =
    let some : 0 < 2 ^ k = pow_pos k in
    let low : word % 2 ^ k < 2 ^ k = omega arith in
    let none : 0 * 2 ^ k + m ≡ m = omega arith in
    let high : bit_and (word / 2 ^ k) 0 ≡ 0 = omega (arith, and_le_r (word / 2 ^ k) 0) in
    ap (λ n. bit_and n m) (sym (word_split word k)) ∙ ap (bit_and ((word / 2 ^ k) * 2 ^ k + word % 2 ^ k)) (sym none)
    ∙ and_block k (word / 2 ^ k) 0 (word % 2 ^ k) m low lt ∙ ap (λ n. n * 2 ^ k + bit_and (word % 2 ^ k) m) high ∙ omega arith

-- the bits of a block's mask, beside those of the mask of what is below
block_mask : (word k w m : ℕ) → m < 2 ^ k → bit_and word ((2 ^ w - 1) * 2 ^ k + m) ≡ (word / 2 ^ k) % 2 ^ w * 2 ^ k + bit_and word m
block_mask word k w m lt =
    let some : 0 < 2 ^ k = pow_pos k in
    let low : word % 2 ^ k < 2 ^ k = omega arith in
    ap (λ n. bit_and n ((2 ^ w - 1) * 2 ^ k + m)) (sym (word_split word k))
    ∙ and_block k (word / 2 ^ k) (2 ^ w - 1) (word % 2 ^ k) m low lt
    ∙ ap (λ n. n * 2 ^ k + bit_and (word % 2 ^ k) m) (and_mask (word / 2 ^ k) w)
    ∙ ap (λ n. (word / 2 ^ k) % 2 ^ w * 2 ^ k + n) (sym (low_mask word k m lt))

abbrev width_of : List Field → ℕ
width_of fields = sum_by (λ (x : Field). x.width) fields

-- what fields do: mask and value lie in their bits, and a word has the value in the mask exactly where it passes the tests
record Decides (word width mask value : ℕ) (tests : List FieldTest) : Type 0 where
  mask_low : mask < 2 ^ width
  value_low : value < 2 ^ width
  same : (bit_and word mask == value) ≡ list_all (passes word) tests

block_below : (v r j k : ℕ) → v < 2 ^ j → r < 2 ^ k → v * 2 ^ k + r < 2 ^ (j + k)
block_below v r j k h l =
    let e : 2 ^ (j + k) ≡ 2 ^ j * 2 ^ k = pow-add 2 j k in
    let some : 0 < 2 ^ k = pow_pos k in
    let up : v * 2 ^ k + 2 ^ k ≤ 2 ^ j * 2 ^ k = (let more : (v + 1) * 2 ^ k ≤ 2 ^ j * 2 ^ k = mul_up (v + 1) (2 ^ j) (2 ^ k) (omega arith) in omega arith) in
    rw e (omega arith)
  where
    mul_up : (a b c : ℕ) → a ≤ b → a * c ≤ b * c
    mul_up a b c le = grind arith

-- one more field above them that isn't fixed
free_field : (word width mask value more : ℕ) (tests : List FieldTest) → Decides word width mask value tests → Decides word (more + width) (0 + mask) (0 + value) tests
free_field word width mask value more tests d =
    let up : 2 ^ width ≤ 2 ^ (more + width) = pow_mono (omega arith) in
    let no_mask : 0 + mask ≡ mask = omega arith in
    let no_value : 0 + value ≡ value = omega arith in
    record {
      mask_low = omega (arith, d.mask_low);
      value_low = omega (arith, d.value_low);
      same = ap (λ m. bit_and word m == 0 + value) no_mask ∙ ap (λ v. bit_and word mask == v) no_value ∙ d.same;
    }

-- one more that is
fixed_field : (word width mask value more v : ℕ) (tests : List FieldTest) → v < 2 ^ more → Decides word width mask value tests
    → Decides word (more + width) ((2 ^ more - 1) * 2 ^ width + mask) (v * 2 ^ width + value) (record { low = width; width = more; value = v } ∷ tests)
fixed_field word width mask value more v tests fits d =
    let some : 0 < 2 ^ more = pow_pos more in
    let below : bit_and word mask < 2 ^ width = omega (arith, d.mask_low, and_le_r word mask) in
    record {
      mask_low = block_below (2 ^ more - 1) mask more width (omega arith) d.mask_low;
      value_low = block_below v value more width fits d.value_low;
      same = ap (λ n. n == v * 2 ^ width + value) (block_mask word width more mask d.mask_low)
          ∙ blocks_same ((word / 2 ^ width) % 2 ^ more) v (bit_and word mask) value width below d.value_low
          ∙ ap (λ b. ((word / 2 ^ width) % 2 ^ more == v) && b) d.same;
    }

abbrev mask_of : ℕ → List (Field × Option ℕ) → ℕ
mask_of bits zs = sum_by (mask_bits bits) zs

abbrev value_of : ℕ → List (Field × Option ℕ) → ℕ
value_of bits zs = sum_by (value_bits bits) zs

one_field : (word bits width mask value : ℕ) (f : Field) (o : Option ℕ) (tests : List FieldTest) → f.low ≡ width → f.low + f.width ≤ bits → fits_field (f, o) ≡ true → Decides word width mask value tests
    → Decides word (f.width + width) (mask_bits bits (f, o) + mask) (value_bits bits (f, o) + value) (filter_map test_of ((f, o) ∷ []) ++ tests)
one_field word bits width mask value f None tests placed within fits d = free_field word width mask value f.width tests d
one_field word bits width mask value f (Some v) tests placed within fits d =
    let counted : is_counted bits f v ≡ true = and_from (nat_le (f.low + f.width) bits) (nat_lt v (2 ^ f.width)) (le-leb (f.low + f.width) bits within) fits in
    rw (counted, placed) (fixed_field word width mask value f.width v tests (ltb-true v (2 ^ f.width) fits) d)

no_bits : (word : ℕ) → (bit_and word 0 == 0) ≡ true
no_bits word = eq-eqb (bit_and word 0) 0 (omega (arith, and_le_r word 0))

joined : (f : Field) (o : Option ℕ) (zs : List (Field × Option ℕ)) → filter_map test_of ((f, o) ∷ []) ++ filter_map test_of zs ≡ filter_map test_of ((f, o) ∷ zs)
joined f None zs = refl
joined f (Some v) zs = refl

fields_decide : (word bits : ℕ) (fields : List Field) (fixed : List (Option ℕ)) → ArePlaced fields → width_of fields ≤ bits → list_all fits_field (zip fields fixed) ≡ true
    → Decides word (width_of fields) (mask_of bits (zip fields fixed)) (value_of bits (zip fields fixed)) (filter_map test_of (zip fields fixed))
fields_decide word bits [] fixed placed within fits = record { mask_low = pow_pos 0; value_low = pow_pos 0; same = no_bits word }
fields_decide word bits (f ∷ fields) [] placed within fits = record { mask_low = pow_pos (width_of (f ∷ fields)); value_low = pow_pos (width_of (f ∷ fields)); same = no_bits word }
fields_decide word bits (f ∷ fields) (o ∷ fixed) placed within fits =
    let zs = zip fields fixed in
    let widths : width_of (f ∷ fields) ≡ f.width + width_of fields = sum_by-cons (λ (x : Field). x.width) f fields in
    let masks : mask_of bits ((f, o) ∷ zs) ≡ mask_bits bits (f, o) + mask_of bits zs = sum_by-cons (mask_bits bits) (f, o) zs in
    let values : value_of bits ((f, o) ∷ zs) ≡ value_bits bits (f, o) + value_of bits zs = sum_by-cons (value_bits bits) (f, o) zs in
    let parts = and_parts (fits_field (f, o)) (list_all fits_field zs) fits in
    let fewer : width_of fields ≤ bits = omega arith in
    let room : f.low + f.width ≤ bits = (let e : f.low ≡ width_of fields = placed.0 in omega arith) in
    let rest = fields_decide word bits fields fixed placed.1 fewer parts.1 in
    let here = one_field word bits (width_of fields) (mask_of bits zs) (value_of bits zs) f o (filter_map test_of zs) placed.0 room parts.0 rest in
    let tests : filter_map test_of ((f, o) ∷ []) ++ filter_map test_of zs ≡ filter_map test_of ((f, o) ∷ zs) = joined f o zs in
    subst (λ l. Decides word (width_of (f ∷ fields)) (mask_of bits ((f, o) ∷ zs)) (value_of bits ((f, o) ∷ zs)) l) tests (rw (widths, masks, values) here)

-- by the format of the instruction
by_format : (design : Design) (instr : Instr) (word : ℕ) (o : Option Format) → IsSomeAnd o (λ format. IsInstr design format.fields instr) → IsSomeAnd o (λ format. IsTrue (list_all fits_field (zip format.fields instr.fixed)))
    → IsSomeAnd o (λ format. ArePlaced format.fields) → IsSomeAnd o (λ format. width_of format.fields ≡ design.word)
    → is_match word instr ≡ list_all (passes word) (filter_map test_of (zip (option_map_or (λ (f : Format). f.fields) o []) instr.fixed))
by_format design instr word None right fits placed whole = absurd right
by_format design instr word (Some format) right fits placed whole =
    let within : width_of format.fields ≤ design.word = omega (arith, whole) in
    ap (λ m. bit_and word m == instr.fixed_value) right.mask ∙ ap (λ v. bit_and word (mask_of design.word (zip format.fields instr.fixed)) == v) right.value
    ∙ (fields_decide word design.word format.fields instr.fixed placed within fits).same

-- what each element has, the one that is found has
each_found : {X : Type 0} (P : X → Type 0) (xs : List X) (i : ℕ) (Q : X → Type 0) → Each P xs → IsSomeAnd (slice_get xs i) Q → IsSomeAnd (slice_get xs i) P
each_found P [] i Q h there = there
each_found P (x ∷ xs) zero Q h there = h.0
each_found P (x ∷ xs) (suc i) Q h there = each_found P xs i Q h.1 there

-- a word matches the instruction exactly where it passes its tests
abbrev pub IsByFields : Design → Instr → Type 0
IsByFields design instr = (word : ℕ) → is_match word instr ≡ list_all (passes word) (tests_of design instr)

each_by_fields : (design : Design) → IsClean design → IsEncoded design → (instrs : List Instr) → Each (IsRight design) instrs → Each (AreFixedFitting design) instrs → Each (IsByFields design) instrs
each_by_fields design clean encoded [] right fits = tt
each_by_fields design clean encoded (instr ∷ instrs) right fits = (
  λ word. by_format design instr word (slice_get design.formats instr.format) right.0 fits.0
      (each_found (λ (f : Format). ArePlaced f.fields) design.formats instr.format (λ format. IsInstr design format.fields instr) clean.sound.formats right.0)
      (each_found (λ (f : Format). width_of f.fields ≡ design.word) design.formats instr.format (λ format. IsInstr design format.fields instr) encoded.sums right.0),
  each_by_fields design clean encoded instrs right.1 fits.1,
)

pub matched_by_fields : (design : Design) → IsClean design → IsEncoded design → Each (IsByFields design) design.instrs
matched_by_fields design clean encoded = each_by_fields design clean encoded design.instrs clean.sound.instrs encoded.fixed

pub matches_by_fields : ((design : Design) → IsClean design → IsEncoded design) → MatchesByFields
matches_by_fields encoded design instr word clean there =
    All-contains (IsByFields design) design.instrs instr (All-from_recursion (IsByFields design) design.instrs (matched_by_fields design clean (encoded design clean))) there word

-- what the tests of clean designs need of a word
fits_word : (bits : ℕ) (fields : List Field) (fixed : List (Option ℕ)) → ArePlaced fields → list_all (λ (f : Field). is_between 1 bits f.width) fields ≡ true → width_of fields ≤ bits → list_all fits_field (zip fields fixed) ≡ true
    → Each (FitsWord bits) (filter_map test_of (zip fields fixed))
fits_word bits [] fixed placed wide within fits = tt
fits_word bits (f ∷ fields) [] placed wide within fits = tt
fits_word bits (f ∷ fields) (o ∷ fixed) placed wide within fits =
    let widths : width_of (f ∷ fields) ≡ f.width + width_of fields = sum_by-cons (λ (x : Field). x.width) f fields in
    let low : f.low ≡ width_of fields = placed.0 in
    let parts = and_parts (fits_field (f, o)) (list_all fits_field (zip fields fixed)) fits in
    let more = and_parts (is_between 1 bits f.width) (list_all (λ (x : Field). is_between 1 bits x.width) fields) wide in
    let some : 1 ≤ f.width = leb-true 1 f.width (and_parts (nat_le 1 f.width) (nat_le f.width bits) more.0).0 in
    let room : f.low + f.width ≤ bits = omega arith in
    with_one f o parts.0 some room (fits_word bits fields fixed placed.1 more.1 (omega arith) parts.1)
  where
    with_one : (f : Field) (o : Option ℕ) → fits_field (f, o) ≡ true → 1 ≤ f.width → f.low + f.width ≤ bits → Each (FitsWord bits) (filter_map test_of (zip fields fixed)) → Each (FitsWord bits) (filter_map test_of ((f, o) ∷ zip fields fixed))
    with_one f None fit some room rest = rest
    with_one f (Some v) fit some room rest = (record { some = some; within = room; fits = ltb-true v (2 ^ f.width) fit }, rest)

fit_by_format : (design : Design) (fixed : List (Option ℕ)) (o : Option Format) → IsSomeAnd o (λ format. ArePlaced format.fields) → IsSomeAnd o (λ format. IsTrue (is_format_within design.word format))
    → IsSomeAnd o (λ format. width_of format.fields ≡ design.word) → IsSomeAnd o (λ format. IsTrue (list_all fits_field (zip format.fields fixed)))
    → Each (FitsWord design.word) (filter_map test_of (zip (option_map_or (λ (f : Format). f.fields) o []) fixed))
fit_by_format design fixed None placed within whole fits = absurd placed
fit_by_format design fixed (Some format) placed within whole fits =
    fits_word design.word format.fields fixed placed (and_parts (is_between 1 16 (length format.fields)) (list_all (λ (f : Field). is_between 1 design.word f.width) format.fields) within).1 (omega (arith, whole)) fits

each_true : {X : Type 0} (test : X → Bool) (xs : List X) → list_all test xs ≡ true → Each (λ x. IsTrue (test x)) xs
each_true test [] e = tt
each_true test (x ∷ xs) e = let parts = and_parts (test x) (list_all test xs) e in (parts.0, each_true test xs parts.1)

each_fit : (design : Design) → IsClean design → IsEncoded design → (instrs : List Instr) → Each (IsRight design) instrs → Each (AreFixedFitting design) instrs → Each (λ (i : Instr). Each (FitsWord design.word) (tests_of design i)) instrs
each_fit design clean encoded [] right fits = tt
each_fit design clean encoded (instr ∷ instrs) right fits =
    let formats = each_true (is_format_within design.word) design.formats (and_parts (nat_le (length design.formats) 32) (list_all (is_format_within design.word) design.formats) clean.sound.within.formats).1 in
    let Q : Format → Type 0 = λ format. IsInstr design format.fields instr in (
      fit_by_format design instr.fixed (slice_get design.formats instr.format)
          (each_found (λ (f : Format). ArePlaced f.fields) design.formats instr.format Q clean.sound.formats right.0)
          (each_found (λ (f : Format). IsTrue (is_format_within design.word f)) design.formats instr.format Q formats right.0)
          (each_found (λ (f : Format). width_of f.fields ≡ design.word) design.formats instr.format Q encoded.sums right.0)
          fits.0,
      each_fit design clean encoded instrs right.1 fits.1,
    )

pub tests_fit : (design : Design) → IsClean design → IsEncoded design → Each (λ (i : Instr). Each (FitsWord design.word) (tests_of design i)) design.instrs
tests_fit design clean encoded = each_fit design clean encoded design.instrs clean.sound.instrs encoded.fixed
