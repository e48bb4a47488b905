use Rattle.ap_values.proofs.Instrs.{instrs_are_by_data}
use Rattle.ap_values.proofs.laws.instrs_are_by_data.Goals as goal

pub returns : goal.returns
returns c = instrs_are_by_data c.stages_have_data.ensures
