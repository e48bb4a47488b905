use Rattle.ap_desc.proofs.FormsComplete as complete_forms
use Rattle.ap_desc.proofs.FormsSound as sound_forms
use Rattle.ap_desc.proofs.laws.forms_are_exact.Goals as goal

pub returns-clause-sound : goal.returns-clause-sound
returns-clause-sound c = sound_forms.sound

pub returns-clause-complete : goal.returns-clause-complete
returns-clause-complete c tokens statement = complete_forms.complete statement tokens
