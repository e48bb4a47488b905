use Rattle.ap_values.proofs.Served.{stages_are_of}
use Rattle.ap_values.proofs.laws.served_stages_are_of.Goals as goal

pub returns : goal.returns
returns c = stages_are_of (λ design clean. (c.clean_is_encoded.ensures design clean).words) (λ design x clean here. c.agreeing_patterns_share_words.ensures.lies design x clean.sound here)
