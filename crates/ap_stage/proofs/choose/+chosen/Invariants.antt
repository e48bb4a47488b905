use Rattle.ap_merge.specs.Selects.{depth}
use Rattle.ap_stage.proofs.choose.+chosen.Given as goal

abbrev pub decreases-chosen : goal.decreases-chosen
decreases-chosen l = depth l.select.now
