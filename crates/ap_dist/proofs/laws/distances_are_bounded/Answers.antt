use Rattle.ap_dist.proofs.Bounds.{dist_high, dist_low, dist_within_out, nop_dist, out_of_high, out_of_low}
use Rattle.ap_dist.proofs.laws.distances_are_bounded.Goals as goal

pub returns-clause-low : goal.returns-clause-low
returns-clause-low c = dist_low

pub returns-clause-high : goal.returns-clause-high
returns-clause-high c = dist_high

pub returns-clause-out : goal.returns-clause-out
returns-clause-out c = dist_within_out

pub returns-clause-out_low : goal.returns-clause-out_low
returns-clause-out_low c = out_of_low

pub returns-clause-out_high : goal.returns-clause-out_high
returns-clause-out_high c = out_of_high

pub returns-clause-nop : goal.returns-clause-nop
returns-clause-nop c = λ design clean x y nop. nop_dist design (c.clean_is_encoded.ensures design clean) x y nop
