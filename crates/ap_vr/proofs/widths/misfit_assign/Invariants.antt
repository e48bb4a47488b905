use Rattle.std.proofs.Common.{◌≡◌, ◌+◌, drop}
use Rattle.ap_vr.specs.Nets.{width_of}
use Rattle.ap_vr.specs.Widths.{misfit_assign}
use Rattle.ap_vr.proofs.widths.misfit_assign.Given as goal

-- what is left has the first line
abbrev pub invariant-loop-place : goal.invariant-loop-place
invariant-loop-place l = misfit_assign (width_of l.nets.names l.nets.forms) (l.from + l.place) (drop l.place l.assigns) ≡ misfit_assign (width_of l.nets.names l.nets.forms) l.from l.assigns
