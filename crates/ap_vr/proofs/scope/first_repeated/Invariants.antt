use Rattle.std.proofs.Common.{◌≡◌, [], drop}
use Rattle.ap_vr.specs.Scope.{repeated_after}
use Rattle.ap_vr.proofs.scope.first_repeated.Given as goal

-- the modules that are left have the line
abbrev pub invariant-loop-module : goal.invariant-loop-module
invariant-loop-module l = repeated_after l.names (drop l.module-index l.modules) ≡ repeated_after [] l.modules
