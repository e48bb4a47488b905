use Rattle.std.proofs.Common.{map, subst}
use Rattle.std.specs.String.{string_bytes}
use Rattle.std.proofs.lemmas.Result.{err_from_is_err_and}
use Rattle.ap_unit.specs.Shelves.{cards_of}
use Rattle.ap_top.specs.Troubles.{StopsAs}
use Rattle.ap_top.proofs.Stopping.{printed_in_part}
use Rattle.ap_top.proofs.serve.answer.Goals as goal

pub returns-in_err-print_line-in-Err-Refused-clause-stopped : goal.returns-in_err-print_line-in-Err-Refused-clause-stopped
returns-in_err-print_line-in-Err-Refused-clause-stopped g c =
    let p = err_from_is_err_and c.from_residual.result c.from_residual.ensures.1 in
    let cards = cards_of (λ x. (goal.UnitKind-dyn g x).card x.1) c.args.shelf.now in
    let stopped = subst (StopsAs cards (map string_bytes c.args.words.now) (g.D.Desk.files c.args.desk.now) (g.D.Desk.files c.run.new.desk)) c.in-Err-Refused.field-0-is c.in-Err-Refused.ensures.stopped in
    rw p.1 (printed_in_part cards (map string_bytes c.args.words.now) (g.D.Desk.files c.args.desk.now) _ _ c.in-Err-Refused.refusal stopped.0 stopped.1 c.in_err-print_line-in-Err-Refused.ensures.err)
