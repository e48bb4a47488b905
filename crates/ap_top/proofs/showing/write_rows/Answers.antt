use Rattle.std.proofs.lemmas.Result.{err_from_is_err_and}
use Rattle.ap_desk.proofs.Steps.{becomes_all, becomes_front, becomes_stands}
use Rattle.ap_vw.specs.NetLines.{text_of}
use Rattle.ap_top.proofs.showing.write_rows.Goals as goal

pub append_rows-requires-clause-there : goal.append_rows-requires-clause-there
append_rows-requires-clause-there g c = becomes_stands _ _ _ _ c.in_ok-create.ensures.ok

pub returns-in_err-append_rows-clause-err : goal.returns-in_err-append_rows-clause-err
returns-in_err-append_rows-clause-err g c =
    let p = err_from_is_err_and c.from_residual-in_err-append_rows.result c.from_residual-in_err-append_rows.ensures.1 in
    rw p.1 (λ lines h. becomes_front _ _ _ c.args.name.now (text_of lines) c.in_ok-create.ensures.ok (c.in_err-append_rows.ensures.err lines h))

pub returns-clause-ok : goal.returns-clause-ok
returns-clause-ok g c = λ lines h. becomes_all _ _ _ c.args.name.now (text_of lines) c.in_ok-create.ensures.ok (c.in_ok-append_rows.ensures.ok lines h)
