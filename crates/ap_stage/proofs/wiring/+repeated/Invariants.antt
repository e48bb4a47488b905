use Rattle.ap_stage.proofs.wiring.+repeated.Given as goal

abbrev pub decreases-repeated : goal.decreases-repeated
decreases-repeated l = l.count
