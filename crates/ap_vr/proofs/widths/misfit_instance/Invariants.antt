use Rattle.std.proofs.Common.{◌≡◌, ◌+◌, drop}
use Rattle.ap_vr.specs.Nets.{width_of}
use Rattle.ap_vr.specs.Scope.{module_named}
use Rattle.ap_vr.specs.Tables.{listed}
use Rattle.ap_vr.specs.Widths.{misfit_instance}
use Rattle.ap_vr.proofs.widths.misfit_instance.Given as goal

-- what is left has the first line
abbrev pub invariant-loop-place : goal.invariant-loop-place
invariant-loop-place l = misfit_instance (module_named (listed l.modules)) (width_of l.nets.names l.nets.forms) (l.from + l.place) (drop l.place l.instances) ≡ misfit_instance (module_named (listed l.modules)) (width_of l.nets.names l.nets.forms) l.from l.instances
