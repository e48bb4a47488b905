use Rattle.ap_vr.proofs.BuildSteps.{BuiltSoFar}
use Rattle.ap_vr.proofs.building.netlist.Given as goal

abbrev pub invariant-loop-module : goal.invariant-loop-module
invariant-loop-module l = BuiltSoFar l.modules l.known l.earlier.items l.made.items l.module-index
