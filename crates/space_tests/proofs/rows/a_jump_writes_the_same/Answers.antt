use Rattle.std.proofs.Common.{◌≡◌, ℕ, zero, suc, ◌+◌, ◌%◌, ◌≤◌, ◌<◌, inl, inr, true, List, Contains, [], ◌∷◌, refl, sym, ap, ◌∙◌, arith}
use Rattle.std.proofs.Math.Nat.{add-mod-mod, mod-eq_of_lt}
use Rattle.ap_dist.specs.Distances.{dist_of}
use Rattle.ap_dist.specs.Spaced.{is_nop_word, is_transfer_word}
use Rattle.ap_model.proofs.Worked.{sum}
use Rattle.ap_model.specs.Cycles.{after_control, control_of, cycle, cycle_entries, cycle_flights, cycle_passes, cycle_samples, over}
use Rattle.ap_model.specs.Examples.{logged, processor}
use Rattle.ap_model.specs.Fire.{fire, instr_of, locals_after}
use Rattle.ap_model.specs.Ports.{write_ports}
use Rattle.ap_model.specs.Sequence.{next_instruction, sequential, whole_instruction}
use Rattle.ap_model.specs.Stalls.{has_memory_line, is_held_stage, need}
use Rattle.ap_model.specs.States.{start, start_storages}
use Rattle.ap_model.specs.Stored.{with_writes}
use Rattle.ap_model.specs.declared.state.Entry.{Entry}
use Rattle.space_tests.proofs.Apart.{AreApart, jump_first, out_low, word, words_apart}
use Rattle.space_tests.proofs.rows.a_jump_writes_the_same.Goals as goal

-- the logs by what the adder gives
short_log : (ℕ → ℕ → ℕ) → List Entry
short_log add = logged 0 7 2 ∷ logged 1 1 (add 0 5) ∷ []

long_log : (ℕ → ℕ → ℕ) → List Entry
long_log add = logged 0 7 2 ∷ logged 1 1 (add 0 5) ∷ logged 3 2 (add (add 0 5) (add 0 5)) ∷ []

-- the places after one are the sums, of its address too
address_after : (p d : ℕ) → (p + d) % 64 ≡ (p % 64 + d) % 64
address_after p d =
    let turned : p + d ≡ d + p = omega arith in
    let back : d + p % 64 ≡ p % 64 + d = omega arith in
    ap (λ x. x % 64) turned ∙ sym (add-mod-mod d p 64) ∙ ap (λ x. x % 64) back

few_apart : (p d : ℕ) → 1 ≤ d → d < 4 → AreApart (p % 64) ((p + d) % 64) → dist_of processor (word (p % 64)) (word ((p + d) % 64)) ≤ d
few_apart p d low high (inl one) = omega arith
few_apart p d low high (inr (first, (last, three))) =
    let at : (p + d) % 64 ≡ 1 + d = address_after p d ∙ ap (λ x. (x + d) % 64) first ∙ mod-eq_of_lt (omega arith) in
    omega arith

-- the word after the jump's is in its slot
after_jump : (p j : ℕ) → p % 64 ≡ 0 → 1 ≤ j → j ≤ 1 → (p + j) % 64 ≡ 1
after_jump p j first low high =
    let sum : p % 64 + j ≡ 1 = omega arith in
    address_after p j ∙ ap (λ x. x % 64) sum

-- the landing is a NOP
nop_there : (landing j : ℕ) → Contains (3 ∷ []) landing → j < 1 → is_nop_word processor (word ((landing + j) % 64)) ≡ true
unfolding instr_of
nop_there landing j (zero, less, at) low =
    let there : 3 ≡ landing = at in
    let sum : landing + j ≡ 3 = omega arith in
    ap (λ p. is_nop_word processor (word (p % 64))) sum
nop_there landing j (suc k, less, at) low = let few : suc k < 1 = less in absurd (omega arith)

pub returns-clause-spaced : goal.returns-clause-spaced
unfolding instr_of
returns-clause-spaced c = record {
  apart = λ place d low high. few_apart place d low high (words_apart (place % 64) ((place + d) % 64));
  slots = λ place j is low high. ap (λ p. is_transfer_word processor (word p)) (after_jump place j (jump_first (place % 64) is) low high);
  drained = λ landing j there less. nop_there landing j there less;
  before = λ place m is le. (let e = out_low (place % 64) in omega arith);
  within = λ place j is low high. (let e = out_low ((place + j) % 64) in omega arith);
}

pub returns-clause-lands : goal.returns-clause-lands
unfolding over cycle after_control control_of cycle_entries cycle_samples cycle_passes cycle_flights need has_memory_line is_held_stage start start_storages fire instr_of locals_after write_ports with_writes sequential next_instruction whole_instruction
returns-clause-lands c = (λ _. refl, (λ _. refl, (λ _. tt, (λ _. refl, (λ _. tt, (λ _. tt, (λ _. tt, (λ _. tt, (λ _. tt, (λ _. tt, (λ _. tt, (λ _. tt, tt))))))))))))

pub returns-clause-pipeline : goal.returns-clause-pipeline
unfolding over cycle after_control control_of cycle_entries cycle_samples cycle_passes cycle_flights need has_memory_line is_held_stage start start_storages fire instr_of locals_after write_ports with_writes sequential next_instruction whole_instruction short_log
returns-clause-pipeline c = ap short_log (λ i a b. sum a b i)

pub returns-clause-sequence : goal.returns-clause-sequence
unfolding over cycle after_control control_of cycle_entries cycle_samples cycle_passes cycle_flights need has_memory_line is_held_stage start start_storages fire instr_of locals_after write_ports with_writes sequential next_instruction whole_instruction long_log
returns-clause-sequence c = ap long_log (λ i a b. sum a b i)

pub returns-clause-passed : goal.returns-clause-passed
unfolding over cycle after_control control_of cycle_entries cycle_samples cycle_passes cycle_flights need has_memory_line is_held_stage start start_storages fire instr_of locals_after write_ports with_writes sequential next_instruction whole_instruction short_log
returns-clause-passed c = ap short_log (λ i a b. sum a b i)

pub returns-clause-later : goal.returns-clause-later
unfolding over cycle after_control control_of cycle_entries cycle_samples cycle_passes cycle_flights need has_memory_line is_held_stage start start_storages fire instr_of locals_after write_ports with_writes sequential next_instruction whole_instruction long_log
returns-clause-later c = ap long_log (λ i a b. sum a b i)
