use Rattle.ap_staged.proofs.Together.{each_was_made}
use Rattle.ap_staged.proofs.laws.stages_are_made_over.Goals as goal

pub returns : goal.returns
returns c = each_was_made
