use Rattle.std.proofs.Common.{ℕ, ◌<◌, take}
use Rattle.ap_ports.specs.Firsts.{IsUnsteady, LineAt}
use Rattle.ap_ports.specs.Flow.{AreKept, made_by}
use Rattle.ap_ports.proofs.flow.first_unsteady.Given as goal

abbrev pub invariant-loop-place : goal.invariant-loop-place
invariant-loop-place l = record {
  kept : AreKept l.design l.instr (made_by (take l.place l.instr.micros)) l.locals;
  none : (k : ℕ) → k < l.place → LineAt l.instr.micros k (IsUnsteady l.design l.instr) → ⊥;
}
