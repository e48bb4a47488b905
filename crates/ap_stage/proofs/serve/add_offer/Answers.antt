use Rattle.std.proofs.Common.{sym, ◌∙◌}
use Rattle.ap_stage.proofs.Offered.{adds_one}
use Rattle.ap_stage.proofs.Users.{is_handed, use_is}
use Rattle.ap_stage.proofs.serve.add_offer.Goals as goal

pub handed_net-requires-clause-given : goal.handed_net-requires-clause-given
handed_net-requires-clause-given c =
    is_handed c.args.course.now.scope c.in-Some.used.asked c.args.part c.in-Some-handed_in.given (sym c.handed_in.ensures ∙ c.in-Some-handed_in.is)
    (use_is c.args.port c.args.course.now c.in-Some.used (sym c.use_of.ensures ∙ c.in-Some.is) c.requires.course.uses.each).args

pub returns-clause-adds : goal.returns-clause-adds
returns-clause-adds c =
    adds_one _ _ c.args.ground.now c.args.part c.args.width c.args.port c.args.course.now c.in-Some.used c.in-Some-handed_in.given c.in_ok-net.net _ _ (sym c.use_of.ensures ∙ c.in-Some.is) (sym c.handed_in.ensures ∙ c.in-Some-handed_in.is) c.requires.course
    (rw c.as_slice-row.ensures.value at c.in_ok-net.ensures.carries) (rw c.as_slice-row.ensures.value at c.in_ok-net.ensures.wiring) c.in_ok-push.ensures.ok
