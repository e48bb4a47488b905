use Rattle.ap_dist.proofs.Gathered.{IsGathered}
use Rattle.ap_dist.proofs.access.constants_of.Given as goal

abbrev pub invariant-loop-micro : goal.invariant-loop-micro
invariant-loop-micro l = IsGathered l.instr.micros l.micro-index l.count l.values
