use Rattle.ap_effect.proofs.Effects.{ports_show}
use Rattle.ap_effect.proofs.laws.ports_show_writes.Goals as goal

pub returns : goal.returns
returns c = ports_show (λ design clean. (c.clean_is_encoded.ensures design clean).words)
