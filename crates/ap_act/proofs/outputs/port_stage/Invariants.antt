use Rattle.std.proofs.Common.{◌≡◌, ℕ, ◌≤◌, ◌<◌, false}
use Rattle.ap_model.specs.Ports.{is_used_in}
use Rattle.ap_act.proofs.outputs.port_stage.Given as goal

abbrev pub invariant-loop-stage : goal.invariant-loop-stage
invariant-loop-stage l = (other : ℕ) → 1 ≤ other → other < l.stage → is_used_in l.design other l.port ≡ false
