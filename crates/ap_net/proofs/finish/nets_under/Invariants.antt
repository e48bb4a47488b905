use Rattle.std.proofs.Common.{◌≡◌, map, take}
use Rattle.std.specs.Prelude.{slice_index}
use Rattle.ap_net.specs.Modules.{placed}
use Rattle.ap_net.proofs.finish.nets_under.Given as goal

abbrev pub invariant-loop-net : goal.invariant-loop-net
invariant-loop-net l = l.made ≡ map (placed (slice_index l.places)) (take l.net-index l.nets)
