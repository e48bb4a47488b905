use Rattle.std.proofs.Common.{◌≡◌, ℕ, zero, suc, ◌+◌, ◌≤◌, true, false, List, [], ◌∷◌, refl, ap, lit≤, lit<, arith}
use Rattle.ap_dist.specs.Distances.{instr_out, out_of}
use Rattle.ap_model.proofs.Worked.{sum}
use Rattle.ap_model.specs.Cycles.{after_control, control_of, cycle, cycle_entries, cycle_flights, cycle_passes, cycle_samples, over}
use Rattle.ap_model.specs.Examples.{logged, processor}
use Rattle.ap_model.specs.Fire.{fire, instr_of, locals_after}
use Rattle.ap_model.specs.Ports.{write_ports}
use Rattle.ap_model.specs.Sequence.{next_instruction, sequential, whole_instruction}
use Rattle.ap_model.specs.Stalls.{has_memory_line, is_held_stage, need}
use Rattle.ap_model.specs.States.{start, start_storages}
use Rattle.ap_model.specs.Stored.{with_writes}
use Rattle.ap_model.specs.declared.state.Entry.{Entry}
use Rattle.space_tests.proofs.rows.a_landing_without_nops_writes_another_value.Goals as goal

-- the log of the sequence by what the adder gives
whole_log : (ℕ → ℕ → ℕ) → List Entry
whole_log add = logged 0 7 2 ∷ logged 1 1 (add 0 5) ∷ logged 2 2 (add (add 0 5) (add 0 5)) ∷ []

-- that of the pipeline
near_log : (ℕ → ℕ → ℕ) → List Entry
near_log add = logged 0 7 2 ∷ logged 1 1 (add 0 5) ∷ logged 2 2 (add 0 0) ∷ []

slot_out : out_of processor 0x2205 ≡ 3
unfolding instr_out instr_of
slot_out = refl

pub returns-clause-undrained : goal.returns-clause-undrained
unfolding instr_of
returns-clause-undrained c zero = λ spaced. (let le : out_of processor 0x2205 + 1 ≤ 3 = spaced.within 0 1 refl (lit≤ tt) (lit≤ tt) in let e = slot_out in omega arith)
returns-clause-undrained c (suc drain) = λ spaced. (let nop : false ≡ true = spaced.drained 5 0 (0, lit< tt, refl) (omega arith) in absurd cc)

pub returns-clause-pipeline : goal.returns-clause-pipeline
unfolding over cycle after_control control_of cycle_entries cycle_samples cycle_passes cycle_flights need has_memory_line is_held_stage start start_storages fire instr_of locals_after write_ports with_writes sequential next_instruction whole_instruction near_log
returns-clause-pipeline c = ap near_log (λ i a b. sum a b i)

pub returns-clause-sequence : goal.returns-clause-sequence
unfolding over cycle after_control control_of cycle_entries cycle_samples cycle_passes cycle_flights need has_memory_line is_held_stage start start_storages fire instr_of locals_after write_ports with_writes sequential next_instruction whole_instruction whole_log
returns-clause-sequence c = ap whole_log (λ i a b. sum a b i)
