use Rattle.std.proofs.Common.{◌≡◌, take, map}
use Rattle.std.specs.Prelude.{slice_index}
use Rattle.ap_net.specs.Modules.{assign_placed}
use Rattle.ap_net.proofs.finish.assigns_under.Given as goal

abbrev pub invariant-loop-assign : goal.invariant-loop-assign
invariant-loop-assign l = l.made.items ≡ map (assign_placed (slice_index l.places)) (take l.assign-index l.assigns)
