use Rattle.std.proofs.Common.{subst}
use Rattle.std.proofs.lemmas.Result.{err_from_is_err_and}
use Rattle.ap_sim.specs.Runnable.{IsFlatOf, IsRunFault}
use Rattle.ap_top.proofs.Causes.{kept, reading_failed}
use Rattle.ap_top.proofs.Simulation.{flat_at, netlist_stops, running_never}
use Rattle.ap_top.proofs.simulating.read_flat.Goals as goal

pub returns-in_err-text-clause-stopped : goal.returns-in_err-text-clause-stopped
returns-in_err-text-clause-stopped g c =
    let p = err_from_is_err_and c.from_residual.result c.from_residual.ensures.1 in
    rw (p.1, p.2) tt

pub returns-in_err-text-clause-cause : goal.returns-in_err-text-clause-cause
returns-in_err-text-clause-cause g c =
    let p = err_from_is_err_and c.from_residual.result c.from_residual.ensures.1 in
    rw (p.1, p.2) (reading_failed (g.D.Desk.files c.args.desk.now) c.args.name.now _ _ c.in_err-text.field-0.0 c.in_err-text.ensures.cause c.in_err-text.ensures.missing)

pub returns-in_err-flat-clause-stopped : goal.returns-in_err-flat-clause-stopped
returns-in_err-flat-clause-stopped g c =
    let p = err_from_is_err_and c.from_residual-in_err-flat.result c.from_residual-in_err-flat.ensures.1 in
    rw (p.1, p.2) (netlist_stops c.args.name.now c.in_ok-text.text.items (g.D.Desk.files c.args.desk.now) c.in_err-flat.field-0.0 c.in_ok-text.ensures.whole
    (subst (λ t. IsRunFault t c.in_err-flat.field-0.0) c.deref.ensures.value c.in_err-flat.ensures.refused))

pub returns-in_err-flat-clause-cause : goal.returns-in_err-flat-clause-cause
returns-in_err-flat-clause-cause g c =
    let p = err_from_is_err_and c.from_residual-in_err-flat.result c.from_residual-in_err-flat.ensures.1 in
    rw (p.1, p.2) (kept _ _ _ _ _ c.in_ok-text.ensures.cause (running_never c.in_err-flat.field-0.0))

pub returns-clause-flat : goal.returns-clause-flat
returns-clause-flat g c =
    flat_at c.args.name.now c.in_ok-text.text.items (g.D.Desk.files c.args.desk.now) c.in_ok-flat.flat c.in_ok-text.ensures.whole
    (subst (λ t. IsFlatOf t c.in_ok-flat.flat) c.deref.ensures.value c.in_ok-flat.ensures.flat)
