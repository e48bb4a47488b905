use Rattle.ap_dist.proofs.Built.{IsBuilt}
use Rattle.ap_dist.proofs.trail.trails_of.Given as goal

abbrev pub invariant-loop-place : goal.invariant-loop-place
invariant-loop-place l = IsBuilt l.instr l.writes_only l.place l.last l.before
