use Rattle.std.proofs.Common.{refl}
use Rattle.ap_model.specs.Cycles.{after_control, control_of, cycle, cycle_entries, cycle_flights, cycle_passes, cycle_samples, over}
use Rattle.ap_model.specs.Fire.{fire, instr_of, locals_after}
use Rattle.ap_model.specs.Ports.{write_groups, write_ports}
use Rattle.ap_model.specs.ShownRows.{control_row, cycle_row, row, rows_of}
use Rattle.ap_model.specs.Stalls.{has_memory_line, is_held_stage, need}
use Rattle.ap_model.specs.States.{start, start_storages}
use Rattle.ap_model.specs.Stored.{with_writes}
use Rattle.machine_tests.proofs.machine_rows.no_instruction.Goals as goal

pub returns : goal.returns
unfolding rows_of row cycle_row control_row over cycle after_control control_of cycle_entries cycle_samples cycle_passes cycle_flights need has_memory_line is_held_stage start start_storages fire instr_of locals_after write_ports write_groups with_writes
returns c = refl
