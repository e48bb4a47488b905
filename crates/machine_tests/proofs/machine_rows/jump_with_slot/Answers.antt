use Rattle.std.proofs.Common.{refl}
use Rattle.ap_model.specs.Cycles.{after_control, control_of, cycle, cycle_entries, cycle_flights, cycle_passes, cycle_samples, over}
use Rattle.ap_model.specs.Fire.{fire, instr_of, locals_after}
use Rattle.ap_model.specs.Ports.{write_groups, write_ports}
use Rattle.ap_model.specs.ShownRows.{control_row, cycle_row, row, rows_of}
use Rattle.ap_model.specs.Stalls.{has_memory_line, is_held_stage, need}
use Rattle.ap_model.specs.States.{start, start_storages}
use Rattle.ap_model.specs.Stored.{with_writes}
use Rattle.std.specs.Prelude.{◌≡◌, true, false}
use Rattle.ap_model.specs.Sequence.{next_instruction, sequential, whole_instruction}
use Rattle.machine_tests.proofs.machine_rows.jump_with_slot.Goals as goal

pub returns-clause-rows : goal.returns-clause-rows
unfolding rows_of row cycle_row control_row over cycle after_control control_of cycle_entries cycle_samples cycle_passes cycle_flights need has_memory_line is_held_stage start start_storages fire instr_of locals_after write_ports write_groups with_writes sequential next_instruction whole_instruction
returns-clause-rows c = refl

pub returns-clause-samples : goal.returns-clause-samples
unfolding rows_of row cycle_row control_row over cycle after_control control_of cycle_entries cycle_samples cycle_passes cycle_flights need has_memory_line is_held_stage start start_storages fire instr_of locals_after write_ports write_groups with_writes sequential next_instruction whole_instruction
returns-clause-samples c = refl

pub returns-clause-passed : goal.returns-clause-passed
unfolding rows_of row cycle_row control_row over cycle after_control control_of cycle_entries cycle_samples cycle_passes cycle_flights need has_memory_line is_held_stage start start_storages fire instr_of locals_after write_ports write_groups with_writes sequential next_instruction whole_instruction
returns-clause-passed c = refl

pub returns-clause-lands : goal.returns-clause-lands
unfolding rows_of row cycle_row control_row over cycle after_control control_of cycle_entries cycle_samples cycle_passes cycle_flights need has_memory_line is_held_stage start start_storages fire instr_of locals_after write_ports write_groups with_writes sequential next_instruction whole_instruction
returns-clause-lands c = (λ _. refl, (λ _. refl, (λ _. tt, (λ _. refl, (λ _. tt, tt)))))

pub returns-clause-misses : goal.returns-clause-misses
unfolding rows_of row cycle_row control_row over cycle after_control control_of cycle_entries cycle_samples cycle_passes cycle_flights need has_memory_line is_held_stage start start_storages fire instr_of locals_after write_ports write_groups with_writes sequential next_instruction whole_instruction
returns-clause-misses c = λ h. let no : false ≡ true = h.1.0 refl in cc

pub returns-clause-log : goal.returns-clause-log
unfolding rows_of row cycle_row control_row over cycle after_control control_of cycle_entries cycle_samples cycle_passes cycle_flights need has_memory_line is_held_stage start start_storages fire instr_of locals_after write_ports write_groups with_writes sequential next_instruction whole_instruction
returns-clause-log c = refl
