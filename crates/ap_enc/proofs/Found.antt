-- In a clean design a word matches one instruction at most.
use Rattle.std.proofs.Common.{◌≡◌, ℕ, ◌-◌, ◌^◌, ◌<◌, Some, None, inl, inr, refl}
use Rattle.std.specs.Prelude.{◌==◌, bit_and, position, slice_get}
use Rattle.std.proofs.lemmas.Bool.{cases_order, eq-eqb, eqb-true}
use Rattle.ap_desc.specs.Clean.{IsClean}
use Rattle.ap_desc.specs.Designs.{Matches}
use Rattle.ap_desc.specs.declared.design.Design.{Design}
use Rattle.ap_desc.specs.declared.design.Instr.{Instr}
use Rattle.ap_desc.specs.declared.fault.Fault.TheVariants as f
use Rattle.ap_enc.specs.Words.{IsOnlyMatch, MatchesAt}
use Rattle.ap_enc.proofs.Patterns.{low_bits_below, low_bits_match, pattern_of}
use Rattle.ap_enc.proofs.Places.{and_some, first_at, none_at, some_and}

-- no two instructions of a clean design match one word
not_both : (design : Design) → IsClean design → (word i j : ℕ) → i < j → MatchesAt design i word → MatchesAt design j word → ⊥
not_both design clean word i j lt a b =
    let one = and_some (λ (x : Instr). Matches x word) (slice_get design.instrs i) a in
    let other = and_some (λ (x : Instr). Matches x word) (slice_get design.instrs j) b in
    clean.faultless f.Overlap other.0.line (record {
      place = j;
      instr = other.0;
      is_there = other.1;
      at = refl;
      earlier = i;
      other = one.0;
      is_other = one.1;
      stands_before = lt;
      word = bit_and word (2 ^ design.word - 1);
      is_word = low_bits_below design.word word;
      matches = low_bits_match design.word other.0 word (pattern_of design clean.sound j other.0 other.1).fits other.2;
      matches_other = low_bits_match design.word one.0 word (pattern_of design clean.sound i one.0 one.1).fits one.2;
    })

pub one_match : (design : Design) → IsClean design → (word i j : ℕ) → MatchesAt design i word → MatchesAt design j word → i ≡ j
one_match design clean word i j a b = elim (cases_order i j) [
  | inl same ↦ same
  | inr (inl less) ↦ absurd (not_both design clean word i j less a b)
  | inr (inr more) ↦ absurd (not_both design clean word j i more b a)
]

-- the first that matches is the only one
pub only_match : (design : Design) → IsClean design → (word place : ℕ) → position (λ (i : Instr). bit_and word i.fixed_mask == i.fixed_value) design.instrs ≡ Some place → IsOnlyMatch design word place
only_match design clean word place e =
    let first = first_at (λ (i : Instr). bit_and word i.fixed_mask == i.fixed_value) design.instrs place e in
    let here : MatchesAt design place word = some_and (λ (x : Instr). Matches x word) (slice_get design.instrs place) first.item first.is_there (eqb-true (bit_and word first.item.fixed_mask) first.item.fixed_value first.passes) in
    record { matches = here; only = λ other there. one_match design clean word other place there here }

pub no_match : (design : Design) (word : ℕ) → position (λ (i : Instr). bit_and word i.fixed_mask == i.fixed_value) design.instrs ≡ None → (place : ℕ) → MatchesAt design place word → ⊥
no_match design word e place m =
    let one = and_some (λ (x : Instr). Matches x word) (slice_get design.instrs place) m in
    none_at (λ (i : Instr). bit_and word i.fixed_mask == i.fixed_value) design.instrs e place one.0 one.1 (eq-eqb (bit_and word one.0.fixed_mask) one.0.fixed_value one.2)
