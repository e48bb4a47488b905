use Rattle.std.proofs.Common.{subst}
use Rattle.std.proofs.lemmas.Result.{err_from_is_err_and}
use Rattle.ap_unit.specs.Shelves.{cards_of}
use Rattle.ap_top.specs.Form.{IsTextFault, reading_of}
use Rattle.ap_top.specs.Programs.{IsDesignOf}
use Rattle.ap_top.proofs.Assembly.{design_at, design_stops}
use Rattle.ap_top.proofs.Causes.{judging_never, kept, reading_failed}
use Rattle.ap_top.proofs.assembling.read_design.Goals as goal

pub returns-in_err-text-clause-stopped : goal.returns-in_err-text-clause-stopped
returns-in_err-text-clause-stopped g c =
    let p = err_from_is_err_and c.from_residual.result c.from_residual.ensures.1 in
    rw (p.1, p.2) tt

pub returns-in_err-text-clause-cause : goal.returns-in_err-text-clause-cause
returns-in_err-text-clause-cause g c =
    let p = err_from_is_err_and c.from_residual.result c.from_residual.ensures.1 in
    rw (p.1, p.2) (reading_failed (g.D.Desk.files c.args.desk.now) c.args.name.now _ _ c.in_err-text.field-0.0 c.in_err-text.ensures.cause c.in_err-text.ensures.missing)

pub returns-in_err-design-clause-stopped : goal.returns-in_err-design-clause-stopped
returns-in_err-design-clause-stopped g c =
    let p = err_from_is_err_and c.from_residual-in_err-design.result c.from_residual-in_err-design.ensures.1 in
    let cards = cards_of (λ x. (goal.UnitKind-dyn g x).card x.1) c.args.shelf.now in
    rw (p.1, p.2) (design_stops cards c.args.name.now c.in_ok-text.text.items (g.D.Desk.files c.args.desk.now) c.in_err-design.field-0.0 c.in_ok-text.ensures.whole
    (subst (λ t. IsTextFault t cards c.in_err-design.field-0.0) c.deref.ensures.value c.in_err-design.ensures.refused))

pub returns-in_err-design-clause-cause : goal.returns-in_err-design-clause-cause
returns-in_err-design-clause-cause g c =
    let p = err_from_is_err_and c.from_residual-in_err-design.result c.from_residual-in_err-design.ensures.1 in
    rw (p.1, p.2) (kept _ _ _ _ _ c.in_ok-text.ensures.cause (judging_never (reading_of c.in_err-design.field-0.0)))

pub returns-clause-design : goal.returns-clause-design
returns-clause-design g c =
    let cards = cards_of (λ x. (goal.UnitKind-dyn g x).card x.1) c.args.shelf.now in
    design_at cards c.args.name.now c.in_ok-text.text.items (g.D.Desk.files c.args.desk.now) c.in_ok-design.design c.in_ok-text.ensures.whole
    (subst (λ t. IsDesignOf cards t c.in_ok-design.design) c.deref.ensures.value c.in_ok-design.ensures.design)
