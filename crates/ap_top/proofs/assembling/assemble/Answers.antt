use Rattle.std.proofs.Common.{subst, refl, ◌∙◌}
use Rattle.std.proofs.lemmas.Result.{err_from_is_err_and}
use Rattle.ap_unit.specs.Shelves.{cards_of}
use Rattle.ap_top.specs.Assembly.{IsProgramAt, IsProgramRefused, StopsReading, asm_sources}
use Rattle.ap_top.proofs.Assembly.{all_written, design_stop, first_fails, memory_stop, program_stop, second_fails, writing_stop}
use Rattle.ap_top.proofs.Causes.{kept, stop_cause, writing_gave_up}
use Rattle.ap_top.proofs.assembling.assemble.Goals as goal

pub returns-in_err-design-clause-stopped : goal.returns-in_err-design-clause-stopped
returns-in_err-design-clause-stopped g c =
    let p = err_from_is_err_and c.from_residual.result c.from_residual.ensures.1 in
    let cards = cards_of (λ x. (goal.UnitKind-dyn g x).card x.1) c.args.shelf.now in
    rw (p.1, p.2) (design_stop cards (g.D.Desk.files c.args.desk.now) _ c.args.description.now c.args.program.now c.args.image.now c.args.listing.now c.in_err-design.field-0.0 c.read_design.ensures.same c.in_err-design.ensures.stopped)

pub returns-in_err-design-clause-cause : goal.returns-in_err-design-clause-cause
returns-in_err-design-clause-cause g c =
    let p = err_from_is_err_and c.from_residual.result c.from_residual.ensures.1 in
    let cards = cards_of (λ x. (goal.UnitKind-dyn g x).card x.1) c.args.shelf.now in
    rw (p.1, p.2) (stop_cause _ _ _ _ _ c.in_err-design.field-0.0 refl (first_fails cards (g.D.Desk.files c.args.desk.now) c.args.description.now c.args.program.now _ _) c.in_err-design.ensures.cause)

pub returns-in_err-made-clause-stopped : goal.returns-in_err-made-clause-stopped
returns-in_err-made-clause-stopped g c =
    let p = err_from_is_err_and c.from_residual-in_err-made.result c.from_residual-in_err-made.ensures.1 in
    let cards = cards_of (λ x. (goal.UnitKind-dyn g x).card x.1) c.args.shelf.now in
    let same = c.read_design.ensures.same in
    rw (p.1, p.2) (program_stop cards (g.D.Desk.files c.args.desk.now) _ c.args.description.now c.args.program.now c.args.image.now c.args.listing.now c.in_ok-design.design c.in_err-made.field-0.0 (c.read_program.ensures.same ∙ same) c.in_ok-design.ensures.design
    (subst (λ t. StopsReading (IsProgramRefused c.in_ok-design.design) c.args.program.now t c.in_err-made.field-0.0) same c.in_err-made.ensures.stopped))

pub returns-in_err-made-clause-cause : goal.returns-in_err-made-clause-cause
returns-in_err-made-clause-cause g c =
    let p = err_from_is_err_and c.from_residual-in_err-made.result c.from_residual-in_err-made.ensures.1 in
    let cards = cards_of (λ x. (goal.UnitKind-dyn g x).card x.1) c.args.shelf.now in
    rw (p.1, p.2) (stop_cause _ _ _ _ _ c.in_err-made.field-0.0 (c.in_ok-design.ensures.cause.quiet (λ e. cc))
    (second_fails cards (g.D.Desk.files c.args.desk.now) _ c.args.description.now c.args.program.now c.in_ok-design.design _ _ c.read_design.ensures.same c.in_ok-design.ensures.design) c.in_err-made.ensures.cause)

pub returns-in_err-text-clause-stopped : goal.returns-in_err-text-clause-stopped
returns-in_err-text-clause-stopped g c =
    let p = err_from_is_err_and c.from_residual-in_err-text.result c.from_residual-in_err-text.ensures.1 in
    let cards = cards_of (λ x. (goal.UnitKind-dyn g x).card x.1) c.args.shelf.now in
    rw (p.1, p.2) (memory_stop cards (g.D.Desk.files c.args.desk.now) _ c.args.description.now c.args.program.now c.args.image.now c.args.listing.now (c.read_program.ensures.same ∙ c.read_design.ensures.same))

pub returns-in_err-text-clause-cause : goal.returns-in_err-text-clause-cause
returns-in_err-text-clause-cause g c =
    let p = err_from_is_err_and c.from_residual-in_err-text.result c.from_residual-in_err-text.ensures.1 in
    rw (p.1, p.2) (kept _ _ _ _ _ (c.in_ok-made.ensures.cause.quiet (λ e. cc) ∙ c.in_ok-design.ensures.cause.quiet (λ e. cc)) (λ e. cc))

pub returns-in_err-write_both-clause-stopped : goal.returns-in_err-write_both-clause-stopped
returns-in_err-write_both-clause-stopped g c =
    let p = err_from_is_err_and c.from_residual-in_err-write_both.result c.from_residual-in_err-write_both.ensures.1 in
    let cards = cards_of (λ x. (goal.UnitKind-dyn g x).card x.1) c.args.shelf.now in
    let same = c.read_design.ensures.same in
    rw (p.1, p.2) (writing_stop cards (g.D.Desk.files c.args.desk.now) _ _ c.args.description.now c.args.program.now c.args.image.now c.args.listing.now c.deref.result.now c.as_slice.result.now c.in_ok-design.design c.in_ok-made.made
    (c.read_program.ensures.same ∙ same) c.in_ok-design.ensures.design (subst (λ t. IsProgramAt c.in_ok-design.design c.args.program.now t c.in_ok-made.made) same c.in_ok-made.ensures.made) (c.deref.ensures.value ∙ c.in_ok-text.ensures) c.as_slice.ensures c.in_err-write_both.ensures.err)

pub returns-in_err-write_both-clause-cause : goal.returns-in_err-write_both-clause-cause
returns-in_err-write_both-clause-cause g c =
    let p = err_from_is_err_and c.from_residual-in_err-write_both.result c.from_residual-in_err-write_both.ensures.1 in
    rw (p.1, p.2) (writing_gave_up (cards_of (λ x. (goal.UnitKind-dyn g x).card x.1) c.args.shelf.now) (asm_sources c.args.description.now c.args.program.now) (g.D.Desk.files c.args.desk.now) _ _ _ c.in_err-write_both.field-0.0
    (c.in_ok-made.ensures.cause.quiet (λ e. cc) ∙ c.in_ok-design.ensures.cause.quiet (λ e. cc)) c.in_err-write_both.ensures.cause c.in_err-write_both.ensures.not_missing)

pub returns-clause-done : goal.returns-clause-done
returns-clause-done g c =
    let cards = cards_of (λ x. (goal.UnitKind-dyn g x).card x.1) c.args.shelf.now in
    let same = c.read_design.ensures.same in
    all_written cards (g.D.Desk.files c.args.desk.now) _ _ c.args.description.now c.args.program.now c.args.image.now c.args.listing.now c.deref.result.now c.as_slice.result.now c.in_ok-design.design c.in_ok-made.made
    (c.read_program.ensures.same ∙ same) c.in_ok-design.ensures.design (subst (λ t. IsProgramAt c.in_ok-design.design c.args.program.now t c.in_ok-made.made) same c.in_ok-made.ensures.made) (c.deref.ensures.value ∙ c.in_ok-text.ensures) c.as_slice.ensures c.in_ok-write_both.ensures.ok

pub returns-clause-cause : goal.returns-clause-cause
returns-clause-cause g c =
    let e = c.in_ok-made.ensures.cause.quiet (λ h. cc) ∙ c.in_ok-design.ensures.cause.quiet (λ h. cc) in
    kept _ _ _ _ _ (c.in_ok-write_both.ensures.cause ∙ e) (λ h. cc)
