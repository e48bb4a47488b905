use Rattle.std.proofs.Common.{ℕ, ◌<◌}
use Rattle.ap_ports.specs.Firsts.{IsBack}
use Rattle.ap_ports.proofs.places.first_back.Given as goal

abbrev pub invariant-loop-place : goal.invariant-loop-place
invariant-loop-place l = (k : ℕ) → k < l.place → IsBack l.micros k → ⊥
