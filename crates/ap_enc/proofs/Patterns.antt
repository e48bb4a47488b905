-- Patterns that agree share a word, and only such do; what a word's low bits match.
use Rattle.std.proofs.Common.{◌≡◌, ℕ, zero, suc, ◌-◌, ◌^◌, ◌<◌, ◌≤◌, min, max, Bool, true, List, [], ◌∷◌, length, take, Option, Some, None, inl, inr, refl, sym, ap, ◌∙◌, arith, sum_by}
use Rattle.std.specs.Prelude.{bit_and, bit_or, slice_get, IsSomeAnd, zip, nat_le}
use Rattle.std.specs.Int.{bit_at}
use Rattle.std.specs.List.{AllByRecursion as Each, list_all, list_any}
use Rattle.std.proofs.lemmas.Bool.{and_parts, eq-eqb, eqb-true, leb-true, or_cases, or_left, or_right}
use Rattle.std.proofs.lemmas.Nat.{and_assoc, and_comm, and_le_r, or_comm, or_lt}
use Rattle.std.proofs.lemmas.Nat.Bits.{bit_at_and, bit_at_or, same_from_bits}
use Rattle.ap_desc.specs.Designs.{ArePlaced, IsInstr, IsRight, Matches, is_between, is_format_within, mask_bits, value_bits}
use Rattle.ap_desc.specs.Sound.{IsSound}
use Rattle.ap_desc.specs.WordFaults.{SharesWord}
use Rattle.ap_desc.specs.declared.design.Design.{Design}
use Rattle.ap_desc.specs.declared.design.Field.{Field}
use Rattle.ap_desc.specs.declared.design.Format.{Format}
use Rattle.ap_desc.specs.declared.design.Instr.{Instr}
use Rattle.ap_enc.specs.Faults.{do_agree, overlaps}
use Rattle.ap_enc.specs.Packed.{AreSideBySide}
use Rattle.ap_enc.proofs.Blocks.{below_by_mask, full_mask_fits, in_full_mask}
use Rattle.ap_enc.proofs.Pairs.{mask_within, pairs_placed, value_in_mask}

-- what each of these has, the one at a place has
pub each_here : {X : Type 0} (P : X → Type 0) (xs : List X) → Each P xs → (i : ℕ) (x : X) → slice_get xs i ≡ Some x → P x
each_here P [] h i x at = absurd cc
each_here P (y ∷ ys) h zero x at = let here : y ≡ x = cc in rw here at h.0
each_here P (y ∷ ys) h (suc i) x at = each_here P ys h.1 i x at

pub passes_here : {X : Type 0} (test : X → Bool) (xs : List X) → list_all test xs ≡ true → (i : ℕ) (x : X) → slice_get xs i ≡ Some x → test x ≡ true
passes_here test [] e i x at = absurd cc
passes_here test (y ∷ ys) e zero x at = let here : y ≡ x = cc in rw here at (and_parts (test y) (list_all test ys) e).0
passes_here test (y ∷ ys) e (suc i) x at = passes_here test ys (and_parts (test y) (list_all test ys) e).1 i x at

-- an instruction of a sound design with its format: its fields stand side by side, and its pattern is made of them
pub record IsOfFormat (design : Design) (instr : Instr) (format : Format) : Type 0 where
  pub is_format : slice_get design.formats instr.format ≡ Some format
  pub right : IsInstr design format.fields instr
  pub few : length format.fields ≤ 16
  pub placed : AreSideBySide (zip format.fields instr.fixed)

of_format : (design : Design) → IsSound design → (instr : Instr) (format : Format) → slice_get design.formats instr.format ≡ Some format → IsInstr design format.fields instr → IsOfFormat design instr format
of_format design sound instr format at right =
    let within : is_format_within design.word format ≡ true = passes_here (is_format_within design.word) design.formats
    (and_parts (nat_le (length design.formats) 32) (list_all (is_format_within design.word) design.formats) sound.within.formats).1 instr.format format at in
    let parts = and_parts (is_between 1 16 (length format.fields)) (list_all (λ (f : Field). is_between 1 design.word f.width) format.fields) within in
    record {
      is_format = at;
      right = right;
      few = leb-true (length format.fields) 16 (and_parts (nat_le 1 (length format.fields)) (nat_le (length format.fields) 16) parts.0).1;
      placed = pairs_placed design.word format.fields instr.fixed right.fixed (each_here (λ (f : Format). ArePlaced f.fields) design.formats sound.formats instr.format format at) parts.1;
    }

pub format_of : (design : Design) → IsSound design → (place : ℕ) (instr : Instr) → slice_get design.instrs place ≡ Some instr → (format : Format) × IsOfFormat design instr format
format_of design sound place instr at =
    let right = each_here (IsRight design) design.instrs sound.instrs place instr at in
    found (slice_get design.formats instr.format) refl right
  where
    found : (o : Option Format) → slice_get design.formats instr.format ≡ o → IsSomeAnd o (λ format. IsInstr design format.fields instr) → (format : Format) × IsOfFormat design instr format
    found None e h = absurd h
    found (Some format) e h = (format, of_format design sound instr format e h)

-- a pattern: its value lies in its mask, and its mask in the word
pub record IsPattern (bits : ℕ) (instr : Instr) : Type 0 where
  pub within : bit_and instr.fixed_value instr.fixed_mask ≡ instr.fixed_value
  pub fits : instr.fixed_mask < 2 ^ bits

pub pattern_of : (design : Design) → IsSound design → (place : ℕ) (instr : Instr) → slice_get design.instrs place ≡ Some instr → IsPattern design.word instr
pattern_of design sound place instr at =
    let f = format_of design sound place instr at in
    let pairs = zip f.0.fields instr.fixed in
    record {
      within = ap (λ n. bit_and n instr.fixed_mask) f.1.right.value ∙ ap (λ n. bit_and (sum_by (value_bits design.word) pairs) n) f.1.right.mask ∙ value_in_mask design.word pairs f.1.placed ∙ sym f.1.right.value;
      fits = (let less : sum_by (mask_bits design.word) (zip f.0.fields instr.fixed) < 2 ^ design.word = mask_within design.word pairs f.1.placed in
          let is : instr.fixed_mask ≡ sum_by (mask_bits design.word) (zip f.0.fields instr.fixed) = f.1.right.mask in
          omega arith);
    }

-- a word matches by its low bits
pub low_bits_match : (bits : ℕ) (instr : Instr) (word : ℕ) → instr.fixed_mask < 2 ^ bits → Matches instr word → Matches instr (bit_and word (2 ^ bits - 1))
low_bits_match bits instr word fits matches =
    and_assoc instr.fixed_mask word (2 ^ bits - 1) ∙ ap (bit_and word) (and_comm (2 ^ bits - 1) instr.fixed_mask ∙ in_full_mask instr.fixed_mask bits fits) ∙ matches

pub low_bits_below : (bits word : ℕ) → bit_and word (2 ^ bits - 1) < 2 ^ bits
low_bits_below bits word = let less : 2 ^ bits - 1 < 2 ^ bits = full_mask_fits bits in omega (arith, and_le_r word (2 ^ bits - 1))

-- the bits of both patterns match one that agrees
joined_bit : (a b c d : ℕ) → min a c ≡ a → min a d ≡ min b c → min (max a b) c ≡ a
joined_bit a b c d within agree = omega arith

joined_matches : (one other : Instr) → bit_and one.fixed_value one.fixed_mask ≡ one.fixed_value → bit_and one.fixed_value other.fixed_mask ≡ bit_and other.fixed_value one.fixed_mask
    → bit_and (bit_or one.fixed_value other.fixed_value) one.fixed_mask ≡ one.fixed_value
joined_matches one other within agree = same_from_bits (bit_and (bit_or one.fixed_value other.fixed_value) one.fixed_mask) one.fixed_value (λ i.
    let inside : min (bit_at one.fixed_value i) (bit_at one.fixed_mask i) ≡ bit_at one.fixed_value i = sym (bit_at_and one.fixed_value one.fixed_mask i) ∙ ap (λ n. bit_at n i) within in
    let same : min (bit_at one.fixed_value i) (bit_at other.fixed_mask i) ≡ min (bit_at other.fixed_value i) (bit_at one.fixed_mask i) = sym (bit_at_and one.fixed_value other.fixed_mask i) ∙ ap (λ n. bit_at n i) agree ∙ bit_at_and other.fixed_value one.fixed_mask i in
    bit_at_and (bit_or one.fixed_value other.fixed_value) one.fixed_mask i
    ∙ ap (λ n. min n (bit_at one.fixed_mask i)) (bit_at_or one.fixed_value other.fixed_value i)
    ∙ joined_bit (bit_at one.fixed_value i) (bit_at other.fixed_value i) (bit_at one.fixed_mask i) (bit_at other.fixed_mask i) inside same)

-- two patterns that agree share the word of the bits of both
pub agreeing_share : (bits : ℕ) (one other : Instr) → IsPattern bits one → IsPattern bits other → do_agree one other ≡ true → (word : ℕ) × (word < 2 ^ bits) × Matches one word × Matches other word
agreeing_share bits one other p q agree =
    let same : bit_and one.fixed_value other.fixed_mask ≡ bit_and other.fixed_value one.fixed_mask = eqb-true (bit_and one.fixed_value other.fixed_mask) (bit_and other.fixed_value one.fixed_mask) agree in (
      bit_or one.fixed_value other.fixed_value,
      or_lt bits one.fixed_value other.fixed_value (below_by_mask one.fixed_value one.fixed_mask (2 ^ bits) p.within p.fits) (below_by_mask other.fixed_value other.fixed_mask (2 ^ bits) q.within q.fits),
      joined_matches one other p.within same,
      ap (λ n. bit_and n other.fixed_mask) (or_comm one.fixed_value other.fixed_value) ∙ joined_matches other one q.within (sym same),
    )

-- patterns with a word in common agree
pub sharing_agree : (one other : Instr) (word : ℕ) → Matches one word → Matches other word → do_agree one other ≡ true
sharing_agree one other word a b =
    let left : bit_and one.fixed_value other.fixed_mask ≡ bit_and word (bit_and one.fixed_mask other.fixed_mask) = ap (λ n. bit_and n other.fixed_mask) (sym a) ∙ and_assoc other.fixed_mask word one.fixed_mask in
    let right : bit_and other.fixed_value one.fixed_mask ≡ bit_and word (bit_and other.fixed_mask one.fixed_mask) = ap (λ n. bit_and n one.fixed_mask) (sym b) ∙ and_assoc one.fixed_mask word other.fixed_mask in
    eq-eqb (bit_and one.fixed_value other.fixed_mask) (bit_and other.fixed_value one.fixed_mask) (left ∙ ap (bit_and word) (and_comm one.fixed_mask other.fixed_mask) ∙ sym right)

-- an element before a place that passes a test
pub any_before : {X : Type 0} (test : X → Bool) (xs : List X) (place earlier : ℕ) (x : X) → slice_get xs earlier ≡ Some x → earlier < place → test x ≡ true → list_any test (take place xs) ≡ true
any_before test [] place earlier x at lt passes = absurd cc
any_before test (y ∷ ys) zero earlier x at lt passes = absurd (omega arith)
any_before test (y ∷ ys) (suc place) zero x at lt passes = let here : y ≡ x = cc in or_left (test y) (list_any test (take place ys)) (ap test here ∙ passes)
any_before test (y ∷ ys) (suc place) (suc earlier) x at lt passes =
    let less : earlier < place = omega arith in
    or_right (test y) (list_any test (take place ys)) (any_before test ys place earlier x at less passes)

pub before_any : {X : Type 0} (test : X → Bool) (xs : List X) (place : ℕ) → list_any test (take place xs) ≡ true → (earlier : ℕ) × (x : X) × (slice_get xs earlier ≡ Some x) × (earlier < place) × (test x ≡ true)
before_any test [] zero e = absurd cc
before_any test [] (suc place) e = absurd cc
before_any test (y ∷ ys) zero e = absurd cc
before_any test (y ∷ ys) (suc place) e = elim (or_cases (test y) (list_any test (take place ys)) e) [
  | inl here ↦ (0, y, refl, omega arith, here)
  | inr later ↦ (let b = before_any test ys place later in (suc b.0, b.1, b.2, (let less : b.0 < place = b.3 in omega arith), b.4))
]

-- an instruction overlaps exactly where it shares a word with an earlier one
pub shares_from : (design : Design) → IsSound design → (place : ℕ) (instr : Instr) → slice_get design.instrs place ≡ Some instr → overlaps design place instr ≡ true → SharesWord design instr.line
shares_from design sound place instr at e =
    let b = before_any (do_agree instr) design.instrs place e in
    let w = agreeing_share design.word instr b.1 (pattern_of design sound place instr at) (pattern_of design sound b.0 b.1 b.2) b.4 in
    record { place = place; instr = instr; is_there = at; at = refl; earlier = b.0; other = b.1; is_other = b.2; stands_before = b.3; word = w.0; is_word = w.1; matches = w.2; matches_other = w.3 }

pub shares_to : (design : Design) (line : ℕ) (s : SharesWord design line) → overlaps design s.place s.instr ≡ true
shares_to design line s = any_before (do_agree s.instr) design.instrs s.place s.earlier s.other s.is_other s.stands_before (sharing_agree s.instr s.other s.word s.matches s.matches_other)
