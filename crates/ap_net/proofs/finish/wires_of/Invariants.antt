use Rattle.std.proofs.Common.{◌≡◌, take}
use Rattle.ap_net.specs.Modules.{wires_among}
use Rattle.ap_net.proofs.finish.wires_of.Given as goal

abbrev pub invariant-loop-net : goal.invariant-loop-net
invariant-loop-net l = l.wires.items ≡ wires_among (take l.net-index l.nets)
