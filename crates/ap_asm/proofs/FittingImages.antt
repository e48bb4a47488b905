-- The words of a program fit the code memory.
use Rattle.std.proofs.Common.{◌≡◌, ℕ, suc, ◌+◌, ◌^◌, ◌<◌, ◌≤◌, ◌||◌, Bool, true, false, List, [], ◌∷◌, length, Some, refl, sym, ap, ◌∙◌, arith, ⊎_elim}
use Rattle.std.specs.Prelude.{IsSomeAnd, IsTrue, slice_get, slice_index}
use Rattle.std.specs.List.{list_any}
use Rattle.std.proofs.lemmas.Bool.{cases_lt}
use Rattle.std.proofs.lemmas.Option.{get_or_from_slice_get, slice_get_within}
use Rattle.ap_desc.specs.Clean.{IsClean}
use Rattle.ap_desc.specs.Designs.{is_named_nop}
use Rattle.ap_desc.specs.declared.design.Design.{Design}
use Rattle.ap_dist.specs.Places.{IsPlainNop, has_line}
use Rattle.ap_dist.specs.declared.source.Source.{Source}
use Rattle.ap_enc.proofs.Places.{each_at}
use Rattle.ap_image.specs.FitsShape.{WordsFit}
use Rattle.ap_asm.specs.Standing.{HoldsGroups}
use Rattle.ap_asm.proofs.GroupLines.{there}

-- where something passes, it has a place
passing : {X : Type 0} (test : X → Bool) (xs : List X) → list_any test xs ≡ true → (i : ℕ) × IsSomeAnd (slice_get xs i) (λ x. IsTrue (test x))
passing test [] e = absurd cc
passing {X = X} test (x ∷ xs) e = by (test x) refl (λ tail. passing test xs tail)
  where
    by : (b : Bool) → test x ≡ b → (list_any test xs ≡ true → (i : ℕ) × IsSomeAnd (slice_get xs i) (λ y. IsTrue (test y))) → (i : ℕ) × IsSomeAnd (slice_get (x ∷ xs) i) (λ y. IsTrue (test y))
    by true h rest = (0, h)
    by false h rest = let later = rest (ap (λ b. b || list_any test xs) (sym h) ∙ e) in (suc later.0, later.1)

-- the word of NOP fits
nop_fits : (design : Design) → IsClean design → (word : ℕ) → IsPlainNop design word → word < 2 ^ design.word
nop_fits design clean word plain = (let nop = passing is_named_nop design.instrs clean.sound.nop in (plain nop.0 nop.1).fits)

-- and so does each word, that of a line or of NOP
pub code_fits : (design : Design) → IsClean design → (source : Source) (starts ends code : List ℕ) → HoldsGroups design source starts ends (length source.groups) code → WordsFit code design.address design.word
code_fits design clean source starts ends code h = record {
  room = (let size = h.size in omega arith);
  each = each_at (λ word. word < 2 ^ design.word) code word_fits;
} where
  word_fits : (place word : ℕ) → slice_get code place ≡ Some word → word < 2 ^ design.word
  word_fits place word at = ⊎_elim (λ fits. fits) (λ wide. absurd (too_wide wide)) (cases_lt word (2 ^ design.word))
    where
      is : slice_index code place ≡ word
      is = get_or_from_slice_get code place word 0 at

      too_wide : 2 ^ design.word ≤ word → ⊥
      too_wide wide =
          let within : place < 2 ^ design.address = (let lt = slice_get_within code place word at in let size = h.size in omega arith) in
          let low = nop_fits design clean (slice_index code place) (h.others place within no_line) in
          let same : slice_index code place ≡ word = is in
          omega arith
        where
          no_line : (g i : ℕ) → g < length source.groups → IsTrue (has_line source g i) → slice_index starts g + i ≡ place → ⊥
          no_line g i lt has here =
              let x = there source g i has in
              let low = (h.lines g i x.line lt x.is_line).fits in
              let same : slice_index code (slice_index starts g + i) ≡ word = ap (slice_index code) here ∙ is in
              omega arith
