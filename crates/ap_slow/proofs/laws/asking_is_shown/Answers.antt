use Rattle.ap_slow.proofs.Asked.{asking_shown}
use Rattle.ap_slow.proofs.laws.asking_is_shown.Goals as goal

pub returns : goal.returns
returns c = λ design given d nets stage unit word valid w conditions clean slow is tells. asking_shown design (c.clean_is_encoded.ensures design clean).words given d nets stage unit word valid w conditions slow is tells
