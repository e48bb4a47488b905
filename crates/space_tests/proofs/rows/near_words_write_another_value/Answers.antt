use Rattle.std.proofs.Common.{◌≡◌, ℕ, ◌≤◌, List, [], ◌∷◌, refl, ap, lit≤, lit<, arith}
use Rattle.ap_dist.specs.Distances.{dist_of}
use Rattle.ap_model.proofs.Worked.{sum}
use Rattle.ap_model.specs.Cycles.{after_control, control_of, cycle, cycle_entries, cycle_flights, cycle_passes, cycle_samples, over}
use Rattle.ap_model.specs.Examples.{logged, processor}
use Rattle.ap_model.specs.Fire.{fire, instr_of, locals_after}
use Rattle.ap_model.specs.Ports.{write_ports}
use Rattle.ap_model.specs.Sequence.{next_instruction, sequential, whole_instruction}
use Rattle.ap_model.specs.Stalls.{has_memory_line, is_held_stage, need}
use Rattle.ap_model.specs.States.{start, start_storages}
use Rattle.ap_model.specs.Stored.{with_writes}
use Rattle.ap_model.specs.declared.state.Entry.{Entry}
use Rattle.space_tests.proofs.rows.near_words_write_another_value.Goals as goal

-- the log of the sequence by what the adder gives
whole_log : (ℕ → ℕ → ℕ) → List Entry
whole_log add = logged 0 1 (add 0 5) ∷ logged 1 2 (add (add 0 5) (add 0 5)) ∷ []

-- that of the pipeline
near_log : (ℕ → ℕ → ℕ) → List Entry
near_log add = logged 0 1 (add 0 5) ∷ logged 1 2 (add 0 0) ∷ []

words_near : dist_of processor 0x2205 0x1448 ≡ 3
unfolding dist_of instr_of
words_near = refl

pub returns-clause-near : goal.returns-clause-near
returns-clause-near c = λ spaced. (let le : dist_of processor 0x2205 0x1448 ≤ 1 = spaced.apart 0 1 (lit≤ tt) (lit< tt) in let e = words_near in omega arith)

pub returns-clause-pipeline : goal.returns-clause-pipeline
unfolding over cycle after_control control_of cycle_entries cycle_samples cycle_passes cycle_flights need has_memory_line is_held_stage start start_storages fire instr_of locals_after write_ports with_writes sequential next_instruction whole_instruction near_log
returns-clause-pipeline c = ap near_log (λ i a b. sum a b i)

pub returns-clause-sequence : goal.returns-clause-sequence
unfolding over cycle after_control control_of cycle_entries cycle_samples cycle_passes cycle_flights need has_memory_line is_held_stage start start_storages fire instr_of locals_after write_ports with_writes sequential next_instruction whole_instruction whole_log
returns-clause-sequence c = ap whole_log (λ i a b. sum a b i)
