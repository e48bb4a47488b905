use Rattle.std.proofs.Common.{take}
use Rattle.ap_act.specs.Acting.{WritesAll}
use Rattle.ap_act.specs.Outputs.{shown_outputs}
use Rattle.ap_act.proofs.write.write_all.Given as goal

abbrev pub invariant-loop-outputs : goal.invariant-loop-outputs
invariant-loop-outputs l = WritesAll l.design l.fires l.stages (take l.outputs-index (shown_outputs l.design l.ports)) l.fn.out l.out
