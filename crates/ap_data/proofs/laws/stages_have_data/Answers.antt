use Rattle.ap_data.proofs.Held.{stages_have_data}
use Rattle.ap_data.proofs.laws.stages_have_data.Goals as goal

pub returns : goal.returns
returns c = stages_have_data (λ design clean. (c.clean_is_encoded.ensures design clean).words) c.stages_are_shown.ensures.ports c.stages_are_shown.ensures.lines
