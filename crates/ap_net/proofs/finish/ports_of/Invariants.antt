use Rattle.std.proofs.Common.{◌≡◌, take}
use Rattle.ap_net.specs.Modules.{ports_among}
use Rattle.ap_net.proofs.finish.ports_of.Given as goal

abbrev pub invariant-loop-net : goal.invariant-loop-net
invariant-loop-net l = l.ports.items ≡ ports_among (take l.net-index l.nets)
