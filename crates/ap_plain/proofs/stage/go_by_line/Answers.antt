use Rattle.ap_plain.specs.PlainViews.{sight_of}
use Rattle.ap_model.proofs.StageLemmas.{goes_none, goes_past, goes_push}
use Rattle.ap_plain.proofs.stage.go_by_line.Goals as goal

pub returns-in_ok-push-in-Some : goal.returns-in_ok-push-in-Some
returns-in_ok-push-in-Some c =
    let value = rw c.as_slice.ensures at c.in-Some.ensures.value in
    record { ok = goes_push (sight_of c.args.view.now) c.args.stage c.args.micro.now c.args.locals.now c.push.new.self c.in-Some.value c.if-micro-stage.true (value c.args.micro.now.line) c.in-Some.ensures.fits c.in_ok-push-in-Some.ensures.ok }

pub returns-in-None : goal.returns-in-None
returns-in-None c =
    let value = rw c.as_slice.ensures at c.in-None.ensures.value in
    record { ok = goes_none (sight_of c.args.view.now) c.args.stage c.args.micro.now c.args.locals.now (value c.args.micro.now.line) }

pub returns-else-micro-stage : goal.returns-else-micro-stage
returns-else-micro-stage c =
    let value = rw c.as_slice.ensures at c.act_value-value.ensures.value in
    record { ok = goes_past (sight_of c.args.view.now) c.args.stage c.args.micro.now c.args.locals.now c.act_value-value.result c.if-micro-stage.false (value c.args.micro.now.line) c.act_value-value.ensures.fits }
