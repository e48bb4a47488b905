use Rattle.std.proofs.Common.{◌≡◌, take}
use Rattle.ap_net.specs.Modules.{regs_among}
use Rattle.ap_net.proofs.finish.regs_of.Given as goal

abbrev pub invariant-loop-net : goal.invariant-loop-net
invariant-loop-net l = l.regs.items ≡ regs_among (take l.net-index l.nets)
