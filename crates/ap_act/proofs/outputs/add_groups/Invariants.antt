use Rattle.std.proofs.Common.{◌≡◌, ◌++◌, map, take}
use Rattle.ap_act.specs.Outputs.{group_outputs}
use Rattle.ap_act.proofs.outputs.add_groups.Given as goal

abbrev pub invariant-loop-group : goal.invariant-loop-group
invariant-loop-group l = l.list ≡ l.fn.list ++ map group_outputs (take l.group-index l.groups)
