-- A clean design is encoded: its formats fill the word, fixed values fit, no word is shared, and NOP is empty.
use Rattle.std.proofs.Common.{◌≡◌, ℕ, suc, ◌<◌, ◌^◌, Bool, true, false, List, [], ◌∷◌, Some, None, inl, inr, refl, arith, sum_by}
use Rattle.std.specs.Prelude.{◌==◌, ◌&&◌, nat_lt, not, slice_get, Option, IsSomeAnd, IsTrue, zip}
use Rattle.std.specs.List.{AllByRecursion as Each, list_any, list_all}
use Rattle.std.specs.Option.{option_map_or}
use Rattle.std.proofs.lemmas.Bool.{and_from, or_left, or_right, or_parts, false_from_ne_true, not-false, eqb-true, eq-eqb, and_cases, both_ways}
use Rattle.ap_desc.proofs.Members.{each_maps}
use Rattle.ap_desc.specs.Clean.{IsClean}
use Rattle.ap_desc.specs.Designs.{Matches, IsRight, fields_of, is_named_nop}
use Rattle.ap_desc.specs.Sound.{IsEncoded, AreApart, AreFixedFitting, IsEmptyNop, fits_field}
use Rattle.ap_desc.specs.WordFaults.{is_wrong_sum, is_unfit, has_lines}
use Rattle.ap_desc.specs.declared.design.Design.{Design}
use Rattle.ap_desc.specs.declared.design.Format.{Format}
use Rattle.ap_desc.specs.declared.design.Field.{Field}
use Rattle.ap_desc.specs.declared.design.Instr.{Instr}
use Rattle.ap_desc.specs.declared.design.Micro.{Micro}
use Rattle.ap_desc.specs.declared.fault.Fault.TheVariants as f

-- where no line has an element that passes, none passes
none_passes : {X : Type 0} (test : X → Bool) (line_of : X → ℕ) (xs : List X) → ((line : ℕ) → list_any (λ x. test x && (line_of x == line)) xs ≡ true → ⊥) → Each (λ x. test x ≡ false) xs
none_passes test line_of [] none = tt
none_passes test line_of (x ∷ xs) none = (
  false_from_ne_true (test x) (λ h. none (line_of x) (or_left (test x && (line_of x == line_of x)) (list_any (λ y. test y && (line_of y == line_of x)) xs) (and_from (test x) (line_of x == line_of x) h (eq-eqb (line_of x) (line_of x) refl)))),
  none_passes test line_of xs (λ line h. none line (or_right (test x && (line_of x == line)) (list_any (λ y. test y && (line_of y == line)) xs) h)),
)

each_both : {X : Type 0} (P Q R : X → Type 0) → ((x : X) → P x → Q x → R x) → (xs : List X) → Each P xs → Each Q xs → Each R xs
each_both P Q R up [] h k = tt
each_both P Q R up (x ∷ xs) h k = (up x h.0 k.0, each_both P Q R up xs h.1 k.1)

right_sum : (word : ℕ) (format : Format) → is_wrong_sum word format ≡ false → sum_by (λ (x : Field). x.width) format.fields ≡ word
right_sum word format e = eqb-true (sum_by (λ (x : Field). x.width) format.fields) word (not-false (sum_by (λ (x : Field). x.width) format.fields == word) e)

all_fit : (zs : List (Field × Option ℕ)) → list_any is_unfit zs ≡ false → list_all fits_field zs ≡ true
all_fit [] e = refl
all_fit ((field, None) ∷ zs) e = all_fit zs e
all_fit ((field, Some v) ∷ zs) e =
    let parts = or_parts (not (nat_lt v (2 ^ field.width))) (list_any is_unfit zs) e in
    and_from (nat_lt v (2 ^ field.width)) (list_all fits_field zs) (not-false (nat_lt v (2 ^ field.width)) parts.0) (all_fit zs parts.1)

fixed_fit : (o : Option Format) (P : Format → Type 0) (fixed : List (Option ℕ)) → IsSomeAnd o P → list_any is_unfit (zip (option_map_or (λ (f : Format). f.fields) o []) fixed) ≡ false
    → IsSomeAnd o (λ format. IsTrue (list_all fits_field (zip format.fields fixed)))
fixed_fit None P fixed there e = there
fixed_fit (Some format) P fixed there e = all_fit (zip format.fields fixed) e

empty_lines : (micros : List Micro) → has_lines micros ≡ false → micros ≡ []
empty_lines [] e = refl
empty_lines (m ∷ micros) e = absurd cc

empty_nop : (instr : Instr) → (is_named_nop instr && has_lines instr.micros) ≡ false → IsEmptyNop instr
empty_nop instr e named = elim (and_cases (is_named_nop instr) (has_lines instr.micros) e) [
  | inl other ↦ absurd (both_ways (is_named_nop instr) other named)
  | inr none ↦ empty_lines instr.micros none
]

each_at : {X : Type 0} (P : X → Type 0) (xs : List X) → ((i : ℕ) (x : X) → slice_get xs i ≡ Some x → P x) → Each P xs
each_at P [] all = tt
each_at P (x ∷ xs) all = (all 0 x refl, each_at P xs (λ i y at. all (suc i) y at))

apart_from : (bits : ℕ) (xs : List Instr) → ((i j : ℕ) (one other : Instr) → i < j → slice_get xs i ≡ Some one → slice_get xs j ≡ Some other → (word : ℕ) → word < 2 ^ bits → Matches one word → Matches other word → ⊥) → AreApart bits xs
apart_from bits [] none = tt
apart_from bits (x ∷ xs) none = (
  each_at (λ other. (word : ℕ) → word < 2 ^ bits → Matches x word → Matches other word → ⊥) xs (λ j other at. none 0 (suc j) x other (omega arith) refl at),
  apart_from bits xs (λ i j one other below at again. none (suc i) (suc j) one other (omega arith) at again),
)

pub encoded_if_clean : (design : Design) → IsClean design → IsEncoded design
encoded_if_clean design clean = record {
  sums = each_maps (λ (x : Format). is_wrong_sum design.word x ≡ false) (λ (x : Format). sum_by (λ (y : Field). y.width) x.fields ≡ design.word) (right_sum design.word) design.formats
      (none_passes (λ (x : Format). is_wrong_sum design.word x) (λ (x : Format). x.line) design.formats (clean.faultless f.FormatSum));
  fixed = each_both (IsRight design) (λ (i : Instr). list_any is_unfit (zip (fields_of design i) i.fixed) ≡ false) (AreFixedFitting design)
      (λ i right fits. fixed_fit (slice_get design.formats i.format) _ i.fixed right fits) design.instrs clean.sound.instrs
      (none_passes (λ (i : Instr). list_any is_unfit (zip (fields_of design i) i.fixed)) (λ (i : Instr). i.line) design.instrs (clean.faultless f.FieldValue));
  words = apart_from design.word design.instrs (λ i j one other below at again word fits matches matches_other. clean.faultless f.Overlap other.line (record {
    place = j;
    instr = other;
    is_there = again;
    at = refl;
    earlier = i;
    other = one;
    is_other = at;
    stands_before = below;
    word = word;
    is_word = fits;
    matches = matches_other;
    matches_other = matches;
  }));
  nop = each_maps (λ (i : Instr). (is_named_nop i && has_lines i.micros) ≡ false) IsEmptyNop empty_nop design.instrs
      (none_passes (λ (i : Instr). is_named_nop i && has_lines i.micros) (λ (i : Instr). i.line) design.instrs (clean.faultless f.NopNotEmpty));
}
