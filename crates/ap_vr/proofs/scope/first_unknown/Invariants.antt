use Rattle.ap_vr.specs.Scope.{unknown_in}
use Rattle.ap_vr.proofs.Scoping.{FoundSoFar}
use Rattle.ap_vr.proofs.scope.first_unknown.Given as goal

abbrev pub invariant-loop-module : goal.invariant-loop-module
invariant-loop-module l = FoundSoFar unknown_in l.modules l.known l.earlier.items l.module-index
