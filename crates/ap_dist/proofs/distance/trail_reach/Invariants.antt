use Rattle.ap_dist.proofs.Built.{IsFollowed}
use Rattle.ap_dist.proofs.distance.trail_reach.Given as goal

abbrev pub invariant-loop-line : goal.invariant-loop-line
invariant-loop-line l = IsFollowed l.design l.younger l.word l.older l.fn.most l.line l.most

abbrev pub decreases-loop-line : goal.decreases-loop-line
decreases-loop-line l = l.line
