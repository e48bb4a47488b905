use Rattle.ap_plain.specs.PlainViews.{sight_of}
use Rattle.ap_model.proofs.StageLemmas.{IsReached}
use Rattle.ap_plain.proofs.stage.locals_after.Given as goal

abbrev pub invariant-loop-micro : goal.invariant-loop-micro
invariant-loop-micro l = IsReached (sight_of l.view) l.stage l.before l.micro-index l.locals
