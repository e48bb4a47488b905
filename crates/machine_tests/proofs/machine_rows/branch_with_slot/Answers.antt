use Rattle.std.proofs.Common.{ap, ◌∙◌}
use Rattle.ap_model.specs.Cycles.{CycleControl, after_control, inputs_at, taken_transfer, control_of, cycle, cycle_entries, cycle_flights, cycle_passes, cycle_samples, over}
use Rattle.ap_model.specs.Fire.{fire, instr_of, locals_after}
use Rattle.ap_model.specs.Ports.{write_groups, write_ports}
use Rattle.ap_model.specs.ShownRows.{control_row, cycle_row, row, rows_of}
use Rattle.ap_model.specs.Stalls.{has_memory_line, is_held_stage, need}
use Rattle.ap_model.specs.States.{start, start_storages}
use Rattle.ap_model.specs.Stored.{with_writes}
use Rattle.std.specs.Prelude.{◌≡◌, ◌/◌, ◌%◌, ◌^◌, ◌==◌, if◌then◌else◌, false, filter_map, slice_get, Option, Some, None, ℕ, List, [], ◌∷◌}
use Rattle.ap_model.specs.Examples.{example_cards, processor, branch_code, no_trace, run, kill, cell}
use Rattle.ap_image.specs.declared.row.Row.{Row}
use Rattle.ap_model.specs.declared.state.State.{State}
use Rattle.ap_model.proofs.Worked.{equal, sum}
use Rattle.machine_tests.proofs.machine_rows.branch_with_slot.Goals as goal

-- the state before the cycle in which the branch stands in stage 2
before : State
before = over processor example_cards branch_code no_trace 2

at_branch : Option ℕ → CycleControl
at_branch taken = record { held = λ stage. false; taken = taken }

-- the state after that cycle, by the transfer that is taken
after : Option ℕ → State
after taken = after_control processor example_cards branch_code (inputs_at processor no_trace 2) before (at_branch taken)

next : State → State
next state = cycle processor example_cards branch_code (inputs_at processor no_trace 3) state

shown : State → Row
shown state = cycle_row processor example_cards (inputs_at processor no_trace 3) state

-- the rows by the transfer that is taken
rows_after : Option ℕ → List Row
rows_after taken =
    let s = after taken in
    run ∷ run ∷ control_row processor example_cards (inputs_at processor no_trace 2) before (at_branch taken) ∷ shown s ∷ shown (next s) ∷ shown (next (next s)) ∷ shown (next (next (next s))) ∷ []

-- the condition is 1
taken : taken_transfer processor example_cards (inputs_at processor no_trace 2) before ≡ Some 8
unfolding rows_of row cycle_row control_row over cycle after_control control_of cycle_entries cycle_samples cycle_passes cycle_flights need has_memory_line is_held_stage start start_storages fire instr_of locals_after write_ports write_groups with_writes before
taken =
    let target : ℕ → Option ℕ = λ bit. if (bit / 2 ^ 0) % 2 ^ 1 == 1 then Some 8 else None in
    ap (λ bit. slice_get (filter_map target (bit ∷ [])) 0) equal

-- the rows by what the adder gives
rows_by : (ℕ → ℕ → ℕ) → List Row
rows_by add = run ∷ run ∷ kill ∷ run ∷ cell 1 (add 0 1) ∷ run ∷ cell 3 (add 0 3) ∷ []

pub returns : goal.returns
unfolding rows_of row cycle_row control_row over cycle after_control control_of cycle_entries cycle_samples cycle_passes cycle_flights need has_memory_line is_held_stage start start_storages fire instr_of locals_after write_ports write_groups with_writes rows_by rows_after shown next after at_branch before
returns c = ap rows_after taken ∙ ap rows_by (λ i a b. sum a b i)
