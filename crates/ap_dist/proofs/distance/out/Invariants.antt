use Rattle.std.proofs.Common.{◌≡◌, take, None}
use Rattle.ap_desc.specs.declared.design.Instr.{Instr}
use Rattle.ap_dist.specs.Accesses.{accesses}
use Rattle.ap_dist.specs.Distances.{gap_between, greatest}
use Rattle.ap_dist.proofs.distance.out.Given as goal

abbrev pub invariant-loop-younger : goal.invariant-loop-younger
invariant-loop-younger l = l.most ≡ greatest (λ (other : Instr). gap_between (accesses l.design l.older None) (accesses l.design other None)) (take l.younger-index l.instrs)
