use Rattle.ap_comb.proofs.sums.+ones_from.Given as goal

abbrev pub decreases-ones_from : goal.decreases-ones_from
decreases-ones_from l = l.count
