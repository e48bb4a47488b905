use Rattle.std.proofs.Common.{◌≡◌, ◌+◌, ◌<◌, ◌≤◌, ℕ, [], ◌∷◌, zero, suc, refl, sym, lit<, lit≤, arith}
use Rattle.std.specs.Prelude.{List, IsTrue, slice_index}
use Rattle.ap_image.specs.declared.image.Image.{Image}
use Rattle.ap_model.specs.Examples.{code_of, processor}
use Rattle.ap_model.specs.Fire.{instr_of}
use Rattle.ap_dist.specs.Distances.{dist_of, instr_out}
use Rattle.ap_dist.specs.LeastStarts.{MayStart}
use Rattle.ap_dist.specs.Places.{has_line}
use Rattle.ap_dist.specs.Programs.{jump_over_nothing}
use Rattle.ap_dist.specs.Spaced.{word_at}
use Rattle.machine_tests.proofs.program_rows.a_jump_is_placed.Goals as goal

jump_apart : dist_of processor 0x6e02 0x14d8 ≡ 1
unfolding dist_of instr_of
jump_apart = refl

slot_apart : dist_of processor 0x2201 0x14d8 ≡ 1
unfolding dist_of instr_of
slot_apart = refl

abbrev image : Image
image = code_of (0x6e02 ∷ 0x2201 ∷ 0x0 ∷ 0x14d8 ∷ [])

pub returns-clause-drain : goal.returns-clause-drain
unfolding instr_out
returns-clause-drain c = refl

addition_apart : (h i j : ℕ) → h < 1 → IsTrue (has_line jump_over_nothing h i) → IsTrue (has_line jump_over_nothing 1 j)
    → dist_of processor (word_at processor image (slice_index (0 ∷ 3 ∷ []) h + i)) (word_at processor image (3 + j)) + (slice_index (0 ∷ 3 ∷ []) h + i) ≤ 3 + j
addition_apart zero zero zero lt older younger = let e = jump_apart in omega arith
addition_apart zero (suc zero) zero lt older younger = let e = slot_apart in omega arith
addition_apart zero (suc (suc i)) j lt older younger = absurd cc
addition_apart zero i (suc j) lt older younger = absurd cc
addition_apart (suc h) i j lt older younger = absurd (omega arith)

all_may : (g : ℕ) → g < 2 → MayStart processor jump_over_nothing (0 ∷ 3 ∷ []) image 1 g (slice_index (0 ∷ 3 ∷ []) g)
all_may zero lt = record {
  behind = lit≤ tt;
  drained = λ landing. absurd cc;
  apart = λ h i j lt older younger. absurd (omega arith);
  taken = λ h i lt older transfer. absurd (omega arith);
}
all_may (suc zero) lt = record {
  behind = lit≤ tt;
  drained = λ landing. lit≤ tt;
  apart = addition_apart;
  taken = λ h i lt older transfer. absurd cc;
}
all_may (suc (suc g)) lt = absurd (omega arith)

none_earlier : (g place : ℕ) → g < 2 → suc place ≡ slice_index (0 ∷ 3 ∷ []) g → MayStart processor jump_over_nothing (0 ∷ 3 ∷ []) image 1 g place → ⊥
none_earlier zero place lt e may = absurd (omega arith)
none_earlier (suc zero) place lt e may = (let behind_drain : 3 ≤ place = may.drained refl in omega arith)
none_earlier (suc (suc g)) place lt e may = absurd (omega arith)

pub returns-clause-least : goal.returns-clause-least
returns-clause-least c = record {
  drain_of_program = sym (returns-clause-drain c);
  may = all_may;
  least = none_earlier;
}
