use Rattle.std.proofs.Common.{[]}
use Rattle.std.proofs.lemmas.Result.{err_from_is_err_and}
use Rattle.ap_vr.proofs.Scoping.{all_distinct}
use Rattle.ap_vr.proofs.judging.judge.Goals as goal

pub judge_nets-requires-clause-distinct : goal.judge_nets-requires-clause-distinct
judge_nets-requires-clause-distinct c = all_distinct [] c.args.modules.now c.in_ok-judge_names.ensures.ok.1

pub returns-in_err-judge_names-clause-err : goal.returns-in_err-judge_names-clause-err
returns-in_err-judge_names-clause-err c =
    let p = err_from_is_err_and c.from_residual.result c.from_residual.ensures.1 in
    rw (p.1, p.2) c.in_err-judge_names.ensures.err

pub returns-in_err-judge_nets-clause-err : goal.returns-in_err-judge_nets-clause-err
returns-in_err-judge_nets-clause-err c =
    let p = err_from_is_err_and c.from_residual-in_err-judge_nets.result c.from_residual-in_err-judge_nets.ensures.1 in
    rw (p.1, p.2) c.in_err-judge_nets.ensures.err
