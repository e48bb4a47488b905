use Rattle.std.proofs.Common.{◌≡◌, true, subst}
use Rattle.std.proofs.lemmas.Result.{err_from_is_err_and}
use Rattle.std.specs.List.{list_any}
use Rattle.ap_desc.specs.NameFaults.{is_missing}
use Rattle.ap_desc.specs.declared.statement.FieldNumber.{FieldNumber}
use Rattle.ap_check.specs.Tables.{names_at}
use Rattle.ap_check.proofs.FirstFaults.{or_second, unknown_first}
use Rattle.ap_check.proofs.declared.Declared.new_instr.Goals as goal

pub returns-in_err-known_fields : goal.returns-in_err-known_fields
returns-in_err-known_fields c =
    let p = err_from_is_err_and c.from_residual-in_err-known_fields.result c.from_residual-in_err-known_fields.ensures.1 in
    rw (p.1, p.2, c.in_err-known_fields.ensures.kind)
    (unknown_first _ _ _ _ (or_second _ _ (subst (λ n. list_any (λ (f : FieldNumber). is_missing f.field (names_at c.args.self.now.fields n)) c.args.fixed.now ≡ true) c.in_ok-place.ensures.place c.in_err-known_fields.ensures.missing)))
