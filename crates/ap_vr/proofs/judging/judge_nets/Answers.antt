use Rattle.std.proofs.Common.{◌∙◌, sym}
use Rattle.std.proofs.lemmas.Result.{err_from_is_err_and}
use Rattle.ap_vr.proofs.FirstFaults.{misfit_fault, twice_fault, undriven_fault}
use Rattle.ap_vr.proofs.judging.judge_nets.Goals as goal

pub returns-in_err-none_at-clause-err : goal.returns-in_err-none_at-clause-err
returns-in_err-none_at-clause-err c =
    let p = err_from_is_err_and c.from_residual-in_err-none_at.result c.from_residual-in_err-none_at.ensures.1 in
    rw (p.1, p.2) (twice_fault c.args.modules.now c.in_ok-twice.twice _ c.requires.named c.in_ok-twice.ensures c.in_err-none_at.ensures.err)

pub returns-in_err-none_at-2-clause-err : goal.returns-in_err-none_at-2-clause-err
returns-in_err-none_at-2-clause-err c =
    let p = err_from_is_err_and c.from_residual-in_err-none_at-2.result c.from_residual-in_err-none_at-2.ensures.1 in
    rw (p.1, p.2) (undriven_fault c.args.modules.now c.in_ok-twice.twice c.in_ok-undriven.undriven _ c.requires.named c.in_ok-twice.ensures c.in_ok-none_at.ensures.ok c.in_ok-undriven.ensures c.in_err-none_at-2.ensures.err)

pub returns-in_err-none_at-3-clause-err : goal.returns-in_err-none_at-3-clause-err
returns-in_err-none_at-3-clause-err c =
    let p = err_from_is_err_and c.from_residual-in_err-none_at-3.result c.from_residual-in_err-none_at-3.ensures.1 in
    rw (p.1, p.2) (misfit_fault c.args.modules.now c.in_ok-twice.twice c.in_ok-undriven.undriven c.in_ok-misfit.misfit _ c.requires.named c.in_ok-twice.ensures c.in_ok-none_at.ensures.ok
    c.in_ok-undriven.ensures c.in_ok-none_at-2.ensures.ok c.in_ok-misfit.ensures c.in_err-none_at-3.ensures.err)

pub returns-clause-ok : goal.returns-clause-ok
returns-clause-ok c = record {
  named = c.requires.named;
  driven = (sym c.in_ok-twice.ensures ∙ c.in_ok-none_at.ensures.ok, sym c.in_ok-undriven.ensures ∙ c.in_ok-none_at-2.ensures.ok);
  fit = sym c.in_ok-misfit.ensures ∙ c.in_ok-none_at-3.ensures.ok;
}
