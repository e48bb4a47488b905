use Rattle.ap_data.proofs.Held.{units_are_asked}
use Rattle.ap_data.proofs.laws.units_are_asked.Goals as goal

pub returns : goal.returns
returns c = units_are_asked (λ design clean. (c.clean_is_encoded.ensures design clean).words) c.stages_are_shown.ensures.ports c.stages_are_shown.ensures.lines
