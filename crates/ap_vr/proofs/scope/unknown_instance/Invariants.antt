use Rattle.std.proofs.Common.{◌≡◌, ◌+◌, drop}
use Rattle.ap_vr.specs.Scope.{is_among, module_named, unknown_instance}
use Rattle.ap_vr.specs.Tables.{listed}
use Rattle.ap_vr.proofs.scope.unknown_instance.Given as goal

-- what is left has the first line
abbrev pub invariant-loop-place : goal.invariant-loop-place
invariant-loop-place l = unknown_instance (module_named (listed l.modules)) (is_among l.names) (l.from + l.place) (drop l.place l.instances) ≡ unknown_instance (module_named (listed l.modules)) (is_among l.names) l.from l.instances
