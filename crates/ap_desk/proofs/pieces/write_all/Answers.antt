use Rattle.std.proofs.lemmas.Result.{err_from_is_err_and}
use Rattle.ap_desk.proofs.Steps.{becomes_stands, becomes_all, becomes_front}
use Rattle.ap_desk.proofs.pieces.write_all.Goals as goal

pub append_all-requires-clause-there : goal.append_all-requires-clause-there
append_all-requires-clause-there g c = λ _. becomes_stands _ _ _ _ c.in_ok-create.ensures.ok

pub returns-in_err-append_all-clause-err : goal.returns-in_err-append_all-clause-err
returns-in_err-append_all-clause-err g c =
    let p = err_from_is_err_and c.from_residual-in_err-append_all.result c.from_residual-in_err-append_all.ensures.1 in
    rw p.1 (becomes_front _ _ _ c.args.name.now c.args.text.now c.in_ok-create.ensures.ok c.in_err-append_all.ensures.err)

pub returns-clause-ok : goal.returns-clause-ok
returns-clause-ok g c = becomes_all _ _ _ c.args.name.now c.args.text.now c.in_ok-create.ensures.ok c.in_ok-append_all.ensures.ok
