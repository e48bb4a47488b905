use Rattle.std.proofs.Common.{◌≡◌, map, take}
use Rattle.std.specs.Prelude.{slice_index}
use Rattle.ap_net.specs.Modules.{instance_placed}
use Rattle.ap_net.proofs.finish.instances_under.Given as goal

abbrev pub invariant-loop-instance : goal.invariant-loop-instance
invariant-loop-instance l = l.made.items ≡ map (instance_placed (slice_index l.places)) (take l.instance-index l.instances)
