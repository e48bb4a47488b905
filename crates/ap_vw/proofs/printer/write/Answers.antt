use Rattle.ap_vw.proofs.Written.{fewer_left, written_all, written_first, written_front, written_more}
use Rattle.ap_vw.proofs.printer.write.Goals as goal

pub loop-more-init : goal.loop-more-init
loop-more-init c = written_first _ _ _ c.new-printer.ensures.text

pub loop-more-preserved : goal.loop-more-preserved
loop-more-preserved c = written_more _ _ _ _ _ _ _ _ c.loop-more.invariant c.in-Ok.ensures.ok

pub loop-more-smaller : goal.loop-more-smaller
loop-more-smaller c = rw c.loop-more-test.true (fewer_left _ _ _ _ _ c.in-Ok.ensures.ok)

pub returns-in-Err-clause-err : goal.returns-in-Err-clause-err
returns-in-Err-clause-err c = rw c.in-Err.ensures.text (written_front _ _ _ _ _ c.loop-more.invariant)

pub returns-clause-ok : goal.returns-clause-ok
returns-clause-ok c = written_all _ _ _ _ (rw c.loop-more-test.false at c.loop-more.invariant)
