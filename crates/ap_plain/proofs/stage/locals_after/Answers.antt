use Rattle.ap_plain.specs.PlainViews.{sight_of}
use Rattle.ap_model.proofs.StageLemmas.{reached_end, reached_item}
use Rattle.ap_plain.proofs.stage.locals_after.Goals as goal

pub loop-micro-preserved : goal.loop-micro-preserved
loop-micro-preserved c =
    reached_item (sight_of c.args.view.now) c.args.stage c.args.before.now c.as_slice-micro-items.result.now c.loop-micro.micro-index _ c.loop-micro.locals c.go_by_line.new.locals
    c.as_slice-micro-items.ensures c.loop-micro-test.true c.requires.good c.loop-micro.invariant c.in_ok-go_by_line.ensures.ok

pub returns-clause-value : goal.returns-clause-value
returns-clause-value c =
    (reached_end (sight_of c.args.view.now) c.args.stage c.args.before.now c.as_slice-micro-items.result.now c.loop-micro.micro-index c.loop-micro.locals
    c.as_slice-micro-items.ensures c.loop-micro-test.false c.loop-micro.auto.micro-index-end c.loop-micro.invariant).0

pub returns-clause-stand : goal.returns-clause-stand
returns-clause-stand c =
    (reached_end (sight_of c.args.view.now) c.args.stage c.args.before.now c.as_slice-micro-items.result.now c.loop-micro.micro-index c.loop-micro.locals
    c.as_slice-micro-items.ensures c.loop-micro-test.false c.loop-micro.auto.micro-index-end c.loop-micro.invariant).1
