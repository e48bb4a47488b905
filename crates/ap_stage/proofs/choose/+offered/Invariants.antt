use Rattle.ap_merge.specs.Selects.{depth}
use Rattle.ap_stage.proofs.choose.+offered.Given as goal

abbrev pub decreases-offered : goal.decreases-offered
decreases-offered l = depth l.select.now
