use Rattle.std.proofs.Common.{◌≡◌, ◌+◌, drop}
use Rattle.ap_vr.specs.Scope.{is_among, unknown_assign}
use Rattle.ap_vr.proofs.scope.unknown_assign.Given as goal

-- what is left has the first line
abbrev pub invariant-loop-place : goal.invariant-loop-place
invariant-loop-place l = unknown_assign (is_among l.names) (l.from + l.place) (drop l.place l.assigns) ≡ unknown_assign (is_among l.names) l.from l.assigns
