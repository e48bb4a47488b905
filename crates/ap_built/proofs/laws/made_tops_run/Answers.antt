use Rattle.ap_built.proofs.Running.{made_tops_run}
use Rattle.ap_built.proofs.laws.made_tops_run.Goals as goal

pub returns : goal.returns
returns c = made_tops_run c.built_modules_are_finished.ensures.finished c.built_modules_are_finished.ensures.netlist c.tops_are_processors.ensures c.whole_processors_run.ensures
