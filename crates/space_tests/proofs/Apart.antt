-- How far the words of the worked program stand apart: only the addition, which reads what the slot writes, has to stand off.
use Rattle.std.proofs.Common.{◌≡◌, ℕ, zero, suc, ◌≤◌, ◌⊎◌, inl, inr, true, slice_index, refl, lit≤}
use Rattle.ap_dist.specs.Distances.{dist_of, instr_out, out_of}
use Rattle.ap_dist.specs.Spaced.{is_transfer_word}
use Rattle.ap_model.specs.Examples.{processor}
use Rattle.ap_model.specs.Fire.{instr_of}
use Rattle.space_tests.specs.Examples.{jump_code}

-- the word at an address
abbrev pub word : ℕ → ℕ
word p = slice_index jump_code.code p

-- two words are 1 apart, or they are the slot and the addition, and 3
abbrev pub AreApart : ℕ → ℕ → Type 0
AreApart p q = (dist_of processor (word p) (word q) ≡ 1) ⊎ ((p ≡ 1) × ((q ≡ 4) × (dist_of processor (word p) (word q) ≡ 3)))

from_jump : (q : ℕ) → AreApart 0 q
unfolding dist_of instr_of
from_jump zero = inl refl
from_jump (suc zero) = inl refl
from_jump (suc (suc zero)) = inl refl
from_jump (suc (suc (suc zero))) = inl refl
from_jump (suc (suc (suc (suc zero)))) = inl refl
from_jump (suc (suc (suc (suc (suc q))))) = inl refl

from_slot : (q : ℕ) → AreApart 1 q
unfolding dist_of instr_of
from_slot zero = inl refl
from_slot (suc zero) = inl refl
from_slot (suc (suc zero)) = inl refl
from_slot (suc (suc (suc zero))) = inl refl
from_slot (suc (suc (suc (suc zero)))) = inr (refl, (refl, refl))
from_slot (suc (suc (suc (suc (suc q))))) = inl refl

from_nop : (q : ℕ) → dist_of processor 0 (word q) ≡ 1
unfolding dist_of instr_of
from_nop zero = refl
from_nop (suc zero) = refl
from_nop (suc (suc zero)) = refl
from_nop (suc (suc (suc zero))) = refl
from_nop (suc (suc (suc (suc zero)))) = refl
from_nop (suc (suc (suc (suc (suc q))))) = refl

from_addition : (q : ℕ) → AreApart 4 q
unfolding dist_of instr_of
from_addition zero = inl refl
from_addition (suc zero) = inl refl
from_addition (suc (suc zero)) = inl refl
from_addition (suc (suc (suc zero))) = inl refl
from_addition (suc (suc (suc (suc zero)))) = inl refl
from_addition (suc (suc (suc (suc (suc q))))) = inl refl

pub words_apart : (p q : ℕ) → AreApart p q
words_apart zero q = from_jump q
words_apart (suc zero) q = from_slot q
words_apart (suc (suc zero)) q = inl (from_nop q)
words_apart (suc (suc (suc zero))) q = inl (from_nop q)
words_apart (suc (suc (suc (suc zero)))) q = from_addition q
words_apart (suc (suc (suc (suc (suc p))))) q = inl (from_nop q)

-- no word is more than 3 apart from any
pub out_low : (p : ℕ) → out_of processor (word p) ≤ 3
unfolding instr_out instr_of
out_low zero = lit≤ tt
out_low (suc zero) = lit≤ tt
out_low (suc (suc zero)) = lit≤ tt
out_low (suc (suc (suc zero))) = lit≤ tt
out_low (suc (suc (suc (suc zero)))) = lit≤ tt
out_low (suc (suc (suc (suc (suc p))))) = lit≤ tt

-- the jump alone transfers
pub jump_first : (p : ℕ) → is_transfer_word processor (word p) ≡ true → p ≡ 0
unfolding instr_of
jump_first zero is = refl
jump_first (suc zero) is = absurd cc
jump_first (suc (suc zero)) is = absurd cc
jump_first (suc (suc (suc zero))) is = absurd cc
jump_first (suc (suc (suc (suc zero)))) is = absurd cc
jump_first (suc (suc (suc (suc (suc p))))) is = absurd cc
