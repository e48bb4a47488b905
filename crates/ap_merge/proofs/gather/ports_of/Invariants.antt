use Rattle.std.proofs.Common.{take}
use Rattle.ap_merge.specs.Gathered.{ArePorts}
use Rattle.ap_merge.proofs.gather.ports_of.Given as goal

abbrev pub invariant-loop-used : goal.invariant-loop-used
invariant-loop-used l = ArePorts (take l.used-index l.uses) l.ports
