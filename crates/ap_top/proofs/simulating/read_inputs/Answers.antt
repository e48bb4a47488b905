use Rattle.std.proofs.Common.{subst}
use Rattle.std.proofs.lemmas.Result.{err_from_is_err_and}
use Rattle.ap_net.specs.Outside.{shape_of}
use Rattle.ap_top.specs.Simulation.{IsTraceIn, IsTraceRefused, StopsIn}
use Rattle.ap_top.proofs.Causes.{kept, reading_failed}
use Rattle.ap_top.proofs.Simulation.{trace_at, trace_stops, stops_never}
use Rattle.ap_top.proofs.simulating.read_inputs.Goals as goal

pub returns-in_err-text-clause-stopped : goal.returns-in_err-text-clause-stopped
returns-in_err-text-clause-stopped g c =
    let p = err_from_is_err_and c.from_residual.result c.from_residual.ensures.1 in
    rw (p.1, p.2) tt

pub returns-in_err-text-clause-cause : goal.returns-in_err-text-clause-cause
returns-in_err-text-clause-cause g c =
    let p = err_from_is_err_and c.from_residual.result c.from_residual.ensures.1 in
    rw (p.1, p.2) (reading_failed (g.D.Desk.files c.args.desk.now) c.args.name.now _ _ c.in_err-text.field-0.0 c.in_err-text.ensures.cause c.in_err-text.ensures.missing)

pub returns-in_err-trace-clause-stopped : goal.returns-in_err-trace-clause-stopped
returns-in_err-trace-clause-stopped g c =
    let p = err_from_is_err_and c.from_residual-in_err-trace.result c.from_residual-in_err-trace.ensures.1 in
    let shape = shape_of c.args.flat.now.outside in
    rw (p.1, p.2) (trace_stops shape c.args.name.now c.in_ok-text.text.items (g.D.Desk.files c.args.desk.now) c.in_err-trace.field-0.0 c.in_ok-text.ensures.whole
    (subst (λ t. StopsIn (IsTraceRefused shape) t c.in_err-trace.field-0.0) c.deref.ensures.value c.in_err-trace.ensures.refused))

pub returns-in_err-trace-clause-cause : goal.returns-in_err-trace-clause-cause
returns-in_err-trace-clause-cause g c =
    let p = err_from_is_err_and c.from_residual-in_err-trace.result c.from_residual-in_err-trace.ensures.1 in
    rw (p.1, p.2) (kept _ _ _ _ _ c.in_ok-text.ensures.cause (stops_never (IsTraceRefused (shape_of c.args.flat.now.outside)) _ c.in_err-trace.field-0.0 c.in_err-trace.ensures.refused))

pub returns-clause-trace : goal.returns-clause-trace
returns-clause-trace g c =
    let shape = shape_of c.args.flat.now.outside in
    trace_at shape c.args.name.now c.in_ok-text.text.items (g.D.Desk.files c.args.desk.now) c.in_ok-trace.trace c.in_ok-text.ensures.whole
    (subst (λ t. IsTraceIn shape t c.in_ok-trace.trace) c.deref.ensures.value c.in_ok-trace.ensures.trace)
