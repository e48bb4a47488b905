use Rattle.ap_commit.proofs.Stands.{leaving_stands}
use Rattle.ap_commit.proofs.laws.leaving_stands.Goals as goal

pub returns : goal.returns
returns c = leaving_stands c.instructions_hand_on.ensures.leaves
