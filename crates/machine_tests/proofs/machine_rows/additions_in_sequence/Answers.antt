use Rattle.std.proofs.Common.{ap}
use Rattle.ap_model.specs.Fire.{fire, instr_of, locals_after}
use Rattle.ap_model.specs.Ports.{write_ports}
use Rattle.ap_model.specs.States.{start_storages}
use Rattle.ap_model.specs.Stored.{with_writes}
use Rattle.std.specs.Prelude.{ℕ, List, [], ◌∷◌}
use Rattle.ap_model.specs.Examples.{logged}
use Rattle.ap_model.specs.Sequence.{next_instruction, sequential, whole_instruction}
use Rattle.ap_model.specs.declared.state.Entry.{Entry}
use Rattle.ap_model.proofs.Worked.{sum}
use Rattle.machine_tests.proofs.machine_rows.additions_in_sequence.Goals as goal

-- the log by what the adder gives
log_by : (ℕ → ℕ → ℕ) → List Entry
log_by add = logged 0 1 (add 0 5) ∷ logged 3 2 (add (add 0 5) (add 0 5)) ∷ []

pub returns : goal.returns
unfolding sequential next_instruction whole_instruction start_storages fire instr_of locals_after write_ports with_writes log_by
returns c = ap log_by (λ i a b. sum a b i)
