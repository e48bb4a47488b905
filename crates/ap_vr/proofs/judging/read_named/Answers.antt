use Rattle.std.proofs.Common.{inl, inr}
use Rattle.std.proofs.lemmas.Result.{err_from_is_err_and}
use Rattle.ap_vr.proofs.judging.read_named.Goals as goal

pub judge-requires : goal.judge-requires
judge-requires c = rw c.deref.ensures.value c.in_ok-modules.ensures.modules.few

pub returns-in_err-modules-clause-refused : goal.returns-in_err-modules-clause-refused
returns-in_err-modules-clause-refused c =
    let p = err_from_is_err_and c.from_residual.result c.from_residual.ensures.1 in
    rw (p.1, p.2) (inl c.in_err-modules.ensures.refused)

pub returns-in_err-judge-clause-refused : goal.returns-in_err-judge-clause-refused
returns-in_err-judge-clause-refused c =
    let p = err_from_is_err_and c.from_residual-in_err-judge.result c.from_residual-in_err-judge.ensures.1 in
    rw (p.1, p.2) (inr (c.in_ok-modules.ensures.well_formed, (c.in_ok-modules.modules.items, c.in_ok-modules.ensures.modules, rw c.deref.ensures.value at c.in_err-judge.ensures.err)))

pub returns-clause-faultless : goal.returns-clause-faultless
returns-clause-faultless c = rw c.deref.ensures.value at c.in_ok-judge.ensures.ok
