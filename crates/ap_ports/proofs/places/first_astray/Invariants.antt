use Rattle.std.proofs.Common.{ℕ, ◌<◌}
use Rattle.ap_ports.specs.Elsewhere.{IsAstray}
use Rattle.ap_ports.specs.Firsts.{LineAt}
use Rattle.ap_ports.proofs.places.first_astray.Given as goal

abbrev pub invariant-loop-place : goal.invariant-loop-place
invariant-loop-place l = (k : ℕ) → k < l.place → LineAt l.micros k (IsAstray l.design) → ⊥
