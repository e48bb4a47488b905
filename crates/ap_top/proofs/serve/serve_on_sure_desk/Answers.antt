use Rattle.ap_top.proofs.Sure.{never_fails}
use Rattle.ap_top.proofs.serve.serve_on_sure_desk.Goals as goal

pub returns : goal.returns
returns g c = c.serve.ensures.completes c.requires (never_fails _ _ _ _ _ c.requires)
