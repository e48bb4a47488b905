use Rattle.std.proofs.lemmas.Result.{err_from_is_err_and}
use Rattle.ap_vr.specs.LineTexts.{IsConnection}
use Rattle.ap_vr.proofs.Grown.{each_more}
use Rattle.ap_vr.proofs.Joins.{joins_end, joins_first, joins_next, joins_none, joins_over}
use Rattle.ap_vr.proofs.line_reading.connections.Goals as goal

pub returns-in_err-join-clause-found : goal.returns-in_err-join-clause-found
returns-in_err-join-clause-found c =
    let p = err_from_is_err_and c.from_residual.result c.from_residual.ensures.1 in
    rw (p.1, p.2) (λ e. joins_none _ _ _ _ _ c.loop-rest.invariant.found (joins_first c.loop-rest.rest.now _ c.in-len7-up.len_at_least) (c.in_err-join.ensures.found e))

pub loop-rest-preserved : goal.loop-rest-preserved
loop-rest-preserved c = record {
  found = joins_next _ c.loop-rest.rest.now _ _ _ _ c.in-len7-up.len_at_least c.loop-rest.invariant.found c.in_ok-join.ensures.found c.in_ok-push.ensures.ok;
  rules = rw c.in_ok-push.ensures.ok (each_more IsConnection _ _ c.loop-rest.invariant.rules c.in_ok-join.ensures.rules);
}

pub returns-clause-found : goal.returns-clause-found
returns-clause-found c = joins_end _ _ _ c.loop-rest.invariant.found (joins_over c.loop-rest.rest.now c.in_default.len_below)
