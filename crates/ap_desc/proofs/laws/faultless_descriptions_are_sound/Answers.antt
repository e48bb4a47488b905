use Rattle.ap_desc.proofs.SoundDesign.{of_cards_if_faultless, sound_if_faultless}
use Rattle.ap_desc.proofs.laws.faultless_descriptions_are_sound.Goals as goal

pub returns-clause-sound : goal.returns-clause-sound
returns-clause-sound c = sound_if_faultless

pub returns-clause-of_cards : goal.returns-clause-of_cards
returns-clause-of_cards c = of_cards_if_faultless
