use Rattle.std.proofs.lemmas.Result.{err_from_is_err_and}
use Rattle.ap_top.proofs.Assembly.{both_there, first_front, second_front}
use Rattle.ap_top.proofs.assembling.write_both.Goals as goal

pub returns-in_err-write_all-clause-err : goal.returns-in_err-write_all-clause-err
returns-in_err-write_all-clause-err g c =
    let p = err_from_is_err_and c.from_residual.result c.from_residual.ensures.1 in
    rw p.1 (first_front c.args.image.now c.args.text.now c.args.listing.now c.args.lines.now _ _ c.in_err-write_all.ensures.err)

pub returns-in_err-write_all-2-clause-err : goal.returns-in_err-write_all-2-clause-err
returns-in_err-write_all-2-clause-err g c =
    let p = err_from_is_err_and c.from_residual-in_err-write_all-2.result c.from_residual-in_err-write_all-2.ensures.1 in
    rw p.1 (second_front c.args.image.now c.args.text.now c.args.listing.now c.args.lines.now _ _ _ c.in_ok-write_all.ensures.ok c.in_err-write_all-2.ensures.err)

pub returns-clause-ok : goal.returns-clause-ok
returns-clause-ok g c = both_there c.args.image.now c.args.text.now c.args.listing.now c.args.lines.now _ _ _ c.in_ok-write_all.ensures.ok c.in_ok-write_all-2.ensures.ok
