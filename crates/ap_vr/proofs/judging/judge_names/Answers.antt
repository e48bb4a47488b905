use Rattle.std.proofs.Common.{◌∙◌, sym}
use Rattle.std.proofs.lemmas.Result.{err_from_is_err_and}
use Rattle.ap_vr.proofs.FirstFaults.{repeated_fault, unknown_fault}
use Rattle.ap_vr.proofs.judging.judge_names.Goals as goal

pub returns-in_err-none_at-clause-err : goal.returns-in_err-none_at-clause-err
returns-in_err-none_at-clause-err c =
    let p = err_from_is_err_and c.from_residual-in_err-none_at.result c.from_residual-in_err-none_at.ensures.1 in
    rw (p.1, p.2) (unknown_fault c.args.modules.now c.in_ok-unknown.unknown _ c.in_ok-unknown.ensures c.in_err-none_at.ensures.err)

pub returns-in_err-none_at-2-clause-err : goal.returns-in_err-none_at-2-clause-err
returns-in_err-none_at-2-clause-err c =
    let p = err_from_is_err_and c.from_residual-in_err-none_at-2.result c.from_residual-in_err-none_at-2.ensures.1 in
    rw (p.1, p.2) (repeated_fault c.args.modules.now c.in_ok-unknown.unknown c.in_ok-repeated.repeated _ c.in_ok-unknown.ensures c.in_ok-none_at.ensures.ok c.in_ok-repeated.ensures c.in_err-none_at-2.ensures.err)

pub returns-clause-ok : goal.returns-clause-ok
returns-clause-ok c = (sym c.in_ok-unknown.ensures ∙ c.in_ok-none_at.ensures.ok, sym c.in_ok-repeated.ensures ∙ c.in_ok-none_at-2.ensures.ok)
