use Rattle.std.proofs.lemmas.Result.{err_from_is_err_and}
use Rattle.ap_read.proofs.Firsts.{refused_first, unsaid_first}
use Rattle.ap_read.proofs.reading.read_at.Goals as goal

pub returns-in_err-statement-clause-err : goal.returns-in_err-statement-clause-err
returns-in_err-statement-clause-err c =
    let p = err_from_is_err_and c.from_residual.result c.from_residual.ensures.1 in
    rw (p.1, p.2) (λ earlier place. unsaid_first earlier _ _ c.in_err-statement.ensures)

pub returns-in-Some-clause-err : goal.returns-in-Some-clause-err
returns-in-Some-clause-err c = λ earlier place. refused_first c.spelling_is_unique.ensures earlier _ _ c.in-Some.kind _ c.in_ok-statement.ensures (c.in-Some.ensures earlier place) c.refused.ensures
