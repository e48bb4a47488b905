use Rattle.std.proofs.Common.{◌≡◌, take, map}
use Rattle.std.specs.Prelude.{slice_index}
use Rattle.ap_net.specs.Modules.{next_placed}
use Rattle.ap_net.proofs.finish.nexts_under.Given as goal

abbrev pub invariant-loop-next : goal.invariant-loop-next
invariant-loop-next l = l.made.items ≡ map (next_placed (slice_index l.places)) (take l.next-index l.nexts)
