use Rattle.std.proofs.Common.{◌≡◌, ◌+◌, drop}
use Rattle.ap_vr.specs.Nets.{width_of}
use Rattle.ap_vr.specs.Widths.{misfit_next}
use Rattle.ap_vr.proofs.widths.misfit_next.Given as goal

-- what is left has the first line
abbrev pub invariant-loop-place : goal.invariant-loop-place
invariant-loop-place l = misfit_next (width_of l.nets.names l.nets.forms) (l.from + l.place) (drop l.place l.nexts) ≡ misfit_next (width_of l.nets.names l.nets.forms) l.from l.nexts
