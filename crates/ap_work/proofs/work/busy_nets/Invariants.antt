use Rattle.std.proofs.Common.{◌≡◌, map, take}
use Rattle.ap_work.specs.Working.{busy_net}
use Rattle.ap_work.proofs.work.busy_nets.Given as goal

abbrev pub invariant-loop-unit : goal.invariant-loop-unit
invariant-loop-unit l = l.nets ≡ map busy_net (take l.unit-index l.units)
