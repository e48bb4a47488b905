use Rattle.std.proofs.Common.{subst}
use Rattle.std.proofs.lemmas.Result.{err_from_is_err_and}
use Rattle.ap_asm.specs.AsmFaults.{IsAsmFault, IsFaultlessProgram}
use Rattle.ap_asm.specs.Assembled.{IsAssembled}
use Rattle.ap_program.specs.Sources.{source_of}
use Rattle.ap_program.specs.Statements.{program_of}
use Rattle.ap_top.proofs.Assembly.{program_at, program_stops}
use Rattle.ap_top.proofs.Causes.{assembling_never, kept, reading_failed}
use Rattle.ap_top.proofs.assembling.read_program.Goals as goal

pub returns-in_err-text-clause-stopped : goal.returns-in_err-text-clause-stopped
returns-in_err-text-clause-stopped g c =
    let p = err_from_is_err_and c.from_residual.result c.from_residual.ensures.1 in
    rw (p.1, p.2) tt

pub returns-in_err-text-clause-cause : goal.returns-in_err-text-clause-cause
returns-in_err-text-clause-cause g c =
    let p = err_from_is_err_and c.from_residual.result c.from_residual.ensures.1 in
    rw (p.1, p.2) (reading_failed (g.D.Desk.files c.args.desk.now) c.args.name.now _ _ c.in_err-text.field-0.0 c.in_err-text.ensures.cause c.in_err-text.ensures.missing)

pub returns-in_err-made-clause-stopped : goal.returns-in_err-made-clause-stopped
returns-in_err-made-clause-stopped g c =
    let p = err_from_is_err_and c.from_residual-in_err-made.result c.from_residual-in_err-made.ensures.1 in
    rw (p.1, p.2) (program_stops c.args.design.now c.args.name.now c.in_ok-text.text.items (g.D.Desk.files c.args.desk.now) c.in_err-made.field-0.0 c.in_ok-text.ensures.whole
    (subst (λ t. IsAsmFault c.args.design.now t c.in_err-made.field-0.0) c.deref.ensures.value c.in_err-made.ensures.refused))

pub returns-in_err-made-clause-cause : goal.returns-in_err-made-clause-cause
returns-in_err-made-clause-cause g c =
    let p = err_from_is_err_and c.from_residual-in_err-made.result c.from_residual-in_err-made.ensures.1 in
    rw (p.1, p.2) (kept _ _ _ _ _ c.in_ok-text.ensures.cause (assembling_never c.in_err-made.field-0.0))

pub returns-clause-made : goal.returns-clause-made
returns-clause-made g c =
    let same = c.deref.ensures.value in
    let e = c.in_ok-made.ensures in
    program_at c.args.design.now c.args.name.now c.in_ok-text.text.items (g.D.Desk.files c.args.desk.now) c.in_ok-made.made c.in_ok-text.ensures.whole
    (subst (IsFaultlessProgram c.args.design.now) same e.faultless)
    (subst (λ t. IsAssembled c.args.design.now (source_of c.args.design.now (program_of t)) c.in_ok-made.made) same
    (record { places = e.places; least = e.least; spaced = e.spaced; fits = e.fits; size = e.size; placed = e.placed; listing = e.listing }))
