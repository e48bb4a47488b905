use Rattle.ap_model.specs.Cycles.{after_control, control_of, cycle, cycle_entries, cycle_flights, cycle_passes, cycle_samples, over}
use Rattle.ap_model.specs.Fire.{fire, instr_of, locals_after}
use Rattle.ap_model.specs.Ports.{write_groups, write_ports}
use Rattle.ap_model.specs.ShownRows.{control_row, cycle_row, row, rows_of}
use Rattle.ap_model.specs.Stalls.{has_memory_line, is_held_stage, need}
use Rattle.ap_model.specs.States.{start, start_storages}
use Rattle.ap_model.specs.Stored.{with_writes}
use Rattle.std.specs.Prelude.{ℕ, List, [], ◌∷◌, ◌++◌, replicate}
use Rattle.ap_model.specs.Examples.{run, stall, cell}
use Rattle.ap_image.specs.declared.row.Row.{Row}
use Rattle.ap_model.proofs.Worked.{sum_waiting, product_waiting}
use Rattle.machine_tests.proofs.machine_rows.multiplication_and_wait.Goals as goal

-- the rows by what the adder and the multiplier give
rows_by : (ℕ → ℕ → ℕ) → (ℕ → ℕ → ℕ) → List Row
rows_by add mul = run ∷ run ∷ run ∷ cell 1 (add 0 6) ∷ cell 2 (add 0 7) ∷ run ∷ replicate 20 stall ++ run ∷ cell 3 (mul (add 0 6) (add 0 7)) ∷ cell 4 9 ∷ []

pub returns : goal.returns
unfolding rows_of row cycle_row control_row over cycle after_control control_of cycle_entries cycle_samples cycle_passes cycle_flights need has_memory_line is_held_stage start start_storages fire instr_of locals_after write_ports write_groups with_writes rows_by
returns c = λ i. rows_by (λ a b. sum_waiting a b i) (λ a b. product_waiting a b i)
