use Rattle.std.proofs.Common.{take}
use Rattle.ap_bank.specs.Joins.{RestsNets}
use Rattle.ap_bank.proofs.join.rest_all.Given as goal

abbrev pub invariant-loop-net : goal.invariant-loop-net
invariant-loop-net l = RestsNets (take l.net-index l.nets) l.fn.out l.out
