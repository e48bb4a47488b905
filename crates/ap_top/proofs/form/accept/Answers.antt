use Rattle.std.proofs.lemmas.Result.{err_from_is_err_and}
use Rattle.ap_unit.specs.Shelves.{cards_of}
use Rattle.ap_top.proofs.TextFaults.{accepted, form_refused, meaning_refused}
use Rattle.ap_top.proofs.form.accept.Goals as goal

pub returns-in_err-description-clause-refused : goal.returns-in_err-description-clause-refused
returns-in_err-description-clause-refused g c =
    let p = err_from_is_err_and c.from_residual.result c.from_residual.ensures.1 in
    rw (p.1, p.2) (form_refused c.args.text.now (cards_of (λ x. (goal.UnitKind-dyn g x).card x.1) c.args.shelf.now) c.in_err-description.field-0.0 c.in_err-description.ensures.refused)

pub returns-in_err-_design-clause-refused : goal.returns-in_err-_design-clause-refused
returns-in_err-_design-clause-refused g c =
    let p = err_from_is_err_and c.from_residual-in_err-_design.result c.from_residual-in_err-_design.ensures.1 in
    rw (p.1, p.2)
    (meaning_refused c.args.text.now (cards_of (λ x. (goal.UnitKind-dyn g x).card x.1) c.args.shelf.now) c.in_ok-description.description c.in_ok-description.ensures.faultless c.in_ok-description.ensures.reads
    c.in_err-_design.field-0.0 c.in_err-_design.ensures.refused)

pub returns-clause-accepted : goal.returns-clause-accepted
returns-clause-accepted g c =
    accepted c.args.text.now (cards_of (λ x. (goal.UnitKind-dyn g x).card x.1) c.args.shelf.now) c.in_ok-description.description c.in_ok-description.ensures.faultless c.in_ok-description.ensures.reads c.in_ok-_design.ensures.faultless
