use Rattle.std.proofs.Common.{ap}
use Rattle.ap_model.specs.Cycles.{after_control, control_of, cycle, cycle_entries, cycle_flights, cycle_passes, cycle_samples, over}
use Rattle.ap_model.specs.Fire.{fire, instr_of, locals_after}
use Rattle.ap_model.specs.Ports.{write_groups, write_ports}
use Rattle.ap_model.specs.ShownRows.{control_row, cycle_row, row, rows_of}
use Rattle.ap_model.specs.Stalls.{has_memory_line, is_held_stage, need}
use Rattle.ap_model.specs.States.{start, start_storages}
use Rattle.ap_model.specs.Stored.{with_writes}
use Rattle.std.specs.Prelude.{ℕ, List, [], ◌∷◌}
use Rattle.ap_model.specs.Examples.{run, cell}
use Rattle.ap_image.specs.declared.row.Row.{Row}
use Rattle.ap_model.proofs.Worked.{sum}
use Rattle.machine_tests.proofs.machine_rows.additions.Goals as goal

-- the rows by what the adder gives
spaced_rows : (ℕ → ℕ → ℕ) → List Row
spaced_rows add = run ∷ run ∷ run ∷ cell 1 (add 0 5) ∷ run ∷ run ∷ cell 2 (add (add 0 5) (add 0 5)) ∷ run ∷ []

pub returns-clause-spaced : goal.returns-clause-spaced
unfolding rows_of row cycle_row control_row over cycle after_control control_of cycle_entries cycle_samples cycle_passes cycle_flights need has_memory_line is_held_stage start start_storages fire instr_of locals_after write_ports write_groups with_writes spaced_rows
returns-clause-spaced c = ap spaced_rows (λ i a b. sum a b i)

hazard_rows : (ℕ → ℕ → ℕ) → List Row
hazard_rows add = run ∷ run ∷ run ∷ cell 1 (add 0 5) ∷ run ∷ cell 2 (add 0 0) ∷ run ∷ run ∷ []

pub returns-clause-hazard : goal.returns-clause-hazard
unfolding rows_of row cycle_row control_row over cycle after_control control_of cycle_entries cycle_samples cycle_passes cycle_flights need has_memory_line is_held_stage start start_storages fire instr_of locals_after write_ports write_groups with_writes hazard_rows
returns-clause-hazard c = ap hazard_rows (λ i a b. sum a b i)
