use Rattle.std.proofs.lemmas.Result.{err_from_is_err_and}
use Rattle.ap_unit.specs.Shelves.{cards_of}
use Rattle.ap_top.proofs.TextFaults.{accepted, form_refused, meaning_refused}
use Rattle.ap_top.proofs.assembling.design_in.Goals as goal

pub returns-in_err-description-clause-refused : goal.returns-in_err-description-clause-refused
returns-in_err-description-clause-refused g c =
    let p = err_from_is_err_and c.from_residual.result c.from_residual.ensures.1 in
    rw (p.1, p.2) (form_refused c.args.text.now (cards_of (λ x. (goal.UnitKind-dyn g x).card x.1) c.args.shelf.now) c.in_err-description.field-0.0 c.in_err-description.ensures.refused)

pub returns-in_err-design-clause-refused : goal.returns-in_err-design-clause-refused
returns-in_err-design-clause-refused g c =
    let p = err_from_is_err_and c.from_residual-in_err-design.result c.from_residual-in_err-design.ensures.1 in
    rw (p.1, p.2)
    (meaning_refused c.args.text.now (cards_of (λ x. (goal.UnitKind-dyn g x).card x.1) c.args.shelf.now) c.in_ok-description.description c.in_ok-description.ensures.faultless c.in_ok-description.ensures.reads
    c.in_err-design.field-0.0 c.in_err-design.ensures.refused)

pub returns-clause-design : goal.returns-clause-design
returns-clause-design g c = record {
  accepted = accepted c.args.text.now (cards_of (λ x. (goal.UnitKind-dyn g x).card x.1) c.args.shelf.now) c.in_ok-description.description c.in_ok-description.ensures.faultless c.in_ok-description.ensures.reads c.in_ok-design.ensures.faultless;
  statements = c.in_ok-description.description;
  reads = c.in_ok-description.ensures.reads;
  means = c.in_ok-design.ensures.design;
}
