use Rattle.std.proofs.Common.{◌<◌, length, arith, refl, ◌∙◌}
use Rattle.std.proofs.lemmas.Result.{err_from_is_err_and}
use Rattle.ap_top.proofs.ShownRows.{fewer_rows, showing_done, showing_failed, showing_first, showing_line, showing_moved, showing_stopped}
use Rattle.ap_top.proofs.showing.append_rows.Goals as goal

pub loop-more-init : goal.loop-more-init
loop-more-init g c = record {
  text = rw c.new-held.ensures.items (showing_first _ _ _);
  counts = refl;
}

pub loop-more-preserved : goal.loop-more-preserved
loop-more-preserved g c = record {
  text = showing_moved _ _ _ _ _ _ _ _ _ (showing_line _ _ _ _ _ _ _ _ _ _ c.loop-more.invariant.text c.in-Ok.ensures.shows) c.in_ok-flush.ensures.ok;
  counts = c.in_ok-flush.ensures.cause ∙ c.loop-more.invariant.counts;
}

pub loop-more-smaller : goal.loop-more-smaller
loop-more-smaller g c = rw c.loop-more-test.true (fewer_rows _ _ _ c.in-Ok.ensures.fewer)

pub returns-in_default-clause-err : goal.returns-in_default-clause-err
returns-in_default-clause-err g c = showing_stopped _ _ _ _ _ _ _ c.loop-more.invariant.text

pub returns-in_err-flush-clause-err : goal.returns-in_err-flush-clause-err
returns-in_err-flush-clause-err g c =
    let p = err_from_is_err_and c.from_residual.result c.from_residual.ensures.1 in
    rw p.1 (showing_failed _ _ _ _ _ _ _ _ (showing_line _ _ _ _ _ _ _ _ _ _ c.loop-more.invariant.text c.in-Ok.ensures.shows) c.in_err-flush.ensures.err)

pub returns-in_err-flush-2-clause-err : goal.returns-in_err-flush-2-clause-err
returns-in_err-flush-2-clause-err g c =
    let p = err_from_is_err_and c.from_residual-in_err-flush-2.result c.from_residual-in_err-flush-2.ensures.1 in
    rw p.1 (showing_failed _ _ _ _ _ _ _ _ c.loop-more.invariant.text c.in_err-flush-2.ensures.err)

pub returns-clause-ok : goal.returns-clause-ok
returns-clause-ok g c =
    showing_done _ _ _ _ _ _ (showing_moved _ _ _ _ _ _ _ _ _ (rw c.loop-more-test.false at c.loop-more.invariant.text) c.in_ok-flush-2.ensures.ok) (let kept = (c.flush-2.new.held).ok in let few = c.in_ok-flush-2.ensures.few in let none : length (c.flush-2.new.held).items < 1 = omega (arith, kept, few) in none) c.requires.there
