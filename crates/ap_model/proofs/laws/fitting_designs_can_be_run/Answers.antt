use Rattle.ap_model.proofs.StageLemmas.{clean_is_runnable}
use Rattle.ap_model.proofs.laws.fitting_designs_can_be_run.Goals as goal

pub returns : goal.returns
returns c = clean_is_runnable
