use Rattle.ap_net.proofs.Laws.{Makes-trans}
use Rattle.ap_unit.proofs.Begun.{HoldsStepper-Makes}
use Rattle.ap_unit.proofs.stepper.next_count.Goals as goal

pub count_or_rest-requires-clause-unit : goal.count_or_rest-requires-clause-unit
count_or_rest-requires-clause-unit c = HoldsStepper-Makes _ _ _ c.in_ok-more.ensures.makes c.requires.unit

pub returns-clause-makes : goal.returns-clause-makes
returns-clause-makes c = Makes-trans _ _ _ c.in_ok-more.ensures.makes c.in_ok-next.ensures.makes
