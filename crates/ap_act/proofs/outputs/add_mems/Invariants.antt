use Rattle.std.proofs.Common.{◌≡◌, ◌++◌, take}
use Rattle.ap_act.specs.Outputs.{written_mems}
use Rattle.ap_act.proofs.outputs.add_mems.Given as goal

abbrev pub invariant-loop-place : goal.invariant-loop-place
invariant-loop-place l = l.list ≡ l.fn.list ++ written_mems l.design 0 (take l.place l.mems)
