use Rattle.std.proofs.Common.{subst, refl, ◌∙◌}
use Rattle.std.proofs.lemmas.Result.{err_from_is_err_and}
use Rattle.ap_net.specs.Outside.{shape_of}
use Rattle.ap_top.specs.Assembly.{StopsReading}
use Rattle.ap_top.specs.Simulation.{IsImageAt, IsImageRefused, IsTraceAt, IsTraceRefused, sim_sources}
use Rattle.ap_top.proofs.Causes.{kept_done, kept_memory, quiet_done, stop_cause, writing_gave_up}
use Rattle.ap_top.proofs.Simulation.{all_written, image_fails, image_stop, lines_exist, memory_stop, netlist_fails, netlist_stop, trace_fails, trace_stop, writing_stop}
use Rattle.ap_top.proofs.simulating.simulate.Goals as goal

pub returns-in_err-flat-clause-stopped : goal.returns-in_err-flat-clause-stopped
returns-in_err-flat-clause-stopped g c = λ cards.
    let p = err_from_is_err_and c.from_residual.result c.from_residual.ensures.1 in
    rw (p.1, p.2) (netlist_stop cards c.args.netlist.now c.args.image.now c.args.trace.now c.args.cycles c.args.rows.now (g.D.Desk.files c.args.desk.now) _ c.in_err-flat.field-0.0 c.read_flat.ensures.same c.in_err-flat.ensures.stopped)

pub returns-in_err-flat-clause-cause : goal.returns-in_err-flat-clause-cause
returns-in_err-flat-clause-cause g c = λ cards.
    let p = err_from_is_err_and c.from_residual.result c.from_residual.ensures.1 in
    rw (p.1, p.2) (stop_cause _ _ _ _ _ c.in_err-flat.field-0.0 refl (netlist_fails cards c.args.netlist.now c.args.image.now c.args.trace.now c.args.cycles c.args.rows.now (g.D.Desk.files c.args.desk.now) _ _) c.in_err-flat.ensures.cause)

pub returns-in_err-image-clause-stopped : goal.returns-in_err-image-clause-stopped
returns-in_err-image-clause-stopped g c = λ cards.
    let p = err_from_is_err_and c.from_residual-in_err-image.result c.from_residual-in_err-image.ensures.1 in
    let shape = shape_of c.in_ok-flat.flat.outside in
    let same = c.read_flat.ensures.same in
    rw (p.1, p.2) (image_stop cards c.args.netlist.now c.args.image.now c.args.trace.now c.args.cycles c.args.rows.now (g.D.Desk.files c.args.desk.now) _ c.in_ok-flat.flat c.in_err-image.field-0.0 (c.read_memories.ensures.same ∙ same) c.in_ok-flat.ensures.flat
    (subst (λ t. StopsReading (IsImageRefused shape) c.args.image.now t c.in_err-image.field-0.0) same c.in_err-image.ensures.stopped))

pub returns-in_err-image-clause-cause : goal.returns-in_err-image-clause-cause
returns-in_err-image-clause-cause g c = λ cards.
    let p = err_from_is_err_and c.from_residual-in_err-image.result c.from_residual-in_err-image.ensures.1 in
    rw (p.1, p.2) (stop_cause _ _ _ _ _ c.in_err-image.field-0.0 (quiet_done _ _ _ c.in_ok-flat.flat c.in_ok-flat.ensures.cause)
    (image_fails cards c.args.netlist.now c.args.image.now c.args.trace.now c.args.cycles c.args.rows.now (g.D.Desk.files c.args.desk.now) _ c.in_ok-flat.flat _ _ c.read_flat.ensures.same c.in_ok-flat.ensures.flat) c.in_err-image.ensures.cause)

pub returns-in_err-trace-clause-stopped : goal.returns-in_err-trace-clause-stopped
returns-in_err-trace-clause-stopped g c = λ cards.
    let p = err_from_is_err_and c.from_residual-in_err-trace.result c.from_residual-in_err-trace.ensures.1 in
    let shape = shape_of c.in_ok-flat.flat.outside in
    let same = c.read_flat.ensures.same in
    let both = c.read_memories.ensures.same ∙ same in
    rw (p.1, p.2) (trace_stop cards c.args.netlist.now c.args.image.now c.args.trace.now c.args.cycles c.args.rows.now (g.D.Desk.files c.args.desk.now) _ c.in_ok-flat.flat c.in_ok-image.image c.in_err-trace.field-0.0 (c.read_inputs.ensures.same ∙ both) c.in_ok-flat.ensures.flat
    (subst (λ t. IsImageAt shape c.args.image.now t c.in_ok-image.image) same c.in_ok-image.ensures.image)
    (subst (λ t. StopsReading (IsTraceRefused shape) c.args.trace.now t c.in_err-trace.field-0.0) both c.in_err-trace.ensures.stopped))

pub returns-in_err-trace-clause-cause : goal.returns-in_err-trace-clause-cause
returns-in_err-trace-clause-cause g c = λ cards.
    let p = err_from_is_err_and c.from_residual-in_err-trace.result c.from_residual-in_err-trace.ensures.1 in
    let shape = shape_of c.in_ok-flat.flat.outside in
    let same = c.read_flat.ensures.same in
    let both = c.read_memories.ensures.same ∙ same in
    rw (p.1, p.2) (stop_cause _ _ _ _ _ c.in_err-trace.field-0.0 (quiet_done _ _ _ c.in_ok-image.image c.in_ok-image.ensures.cause ∙ quiet_done _ _ _ c.in_ok-flat.flat c.in_ok-flat.ensures.cause)
    (trace_fails cards c.args.netlist.now c.args.image.now c.args.trace.now c.args.cycles c.args.rows.now (g.D.Desk.files c.args.desk.now) _ c.in_ok-flat.flat c.in_ok-image.image _ _ both c.in_ok-flat.ensures.flat
    (subst (λ t. IsImageAt shape c.args.image.now t c.in_ok-image.image) same c.in_ok-image.ensures.image)) c.in_err-trace.ensures.cause)

pub returns-in_err-shown-clause-stopped : goal.returns-in_err-shown-clause-stopped
returns-in_err-shown-clause-stopped g c = λ cards.
    let p = err_from_is_err_and c.from_residual-in_err-shown.result c.from_residual-in_err-shown.ensures.1 in
    rw (p.1, p.2) (memory_stop cards c.args.netlist.now c.args.image.now c.args.trace.now c.args.cycles c.args.rows.now (g.D.Desk.files c.args.desk.now) _ (c.read_inputs.ensures.same ∙ c.read_memories.ensures.same ∙ c.read_flat.ensures.same))

pub returns-in_err-shown-clause-cause : goal.returns-in_err-shown-clause-cause
returns-in_err-shown-clause-cause g c = λ cards.
    let p = err_from_is_err_and c.from_residual-in_err-shown.result c.from_residual-in_err-shown.ensures.1 in
    rw (p.1, p.2) (kept_memory _ _ _ (quiet_done _ _ _ c.in_ok-trace.trace c.in_ok-trace.ensures.cause ∙ quiet_done _ _ _ c.in_ok-image.image c.in_ok-image.ensures.cause ∙ quiet_done _ _ _ c.in_ok-flat.flat c.in_ok-flat.ensures.cause))

pub returns-in_err-write_rows-clause-stopped : goal.returns-in_err-write_rows-clause-stopped
returns-in_err-write_rows-clause-stopped g c = λ cards.
    let p = err_from_is_err_and c.from_residual-in_err-write_rows.result c.from_residual-in_err-write_rows.ensures.1 in
    let flat = c.in_ok-flat.flat in
    let shape = shape_of flat.outside in
    let same = c.read_flat.ensures.same in
    let both = c.read_memories.ensures.same ∙ same in
    let run = lines_exist flat.outside flat.net c.in_ok-image.image c.in_ok-trace.trace c.args.cycles (c.opened_netlists_run.ensures flat c.rules.ensures) c.in_ok-image.ensures.fits c.in_ok-trace.ensures.fits in
    rw (p.1, p.2) (writing_stop cards c.args.netlist.now c.args.image.now c.args.trace.now c.args.cycles c.args.rows.now (g.D.Desk.files c.args.desk.now) _ _ flat c.in_ok-image.image c.in_ok-trace.trace run.0 (c.read_inputs.ensures.same ∙ both)
    (record {
      flat_is = c.in_ok-flat.ensures.flat;
      image_is = subst (λ t. IsImageAt shape c.args.image.now t c.in_ok-image.image) same c.in_ok-image.ensures.image;
      trace_is = subst (λ t. IsTraceAt shape c.args.trace.now t c.in_ok-trace.trace) both c.in_ok-trace.ensures.trace;
      lines_are = run.1;
    })
    (c.in_err-write_rows.ensures.err run.0 (c.in_ok-shown.ensures.shows run.0 run.1)))

pub returns-in_err-write_rows-clause-cause : goal.returns-in_err-write_rows-clause-cause
returns-in_err-write_rows-clause-cause g c = λ cards.
    let p = err_from_is_err_and c.from_residual-in_err-write_rows.result c.from_residual-in_err-write_rows.ensures.1 in
    rw (p.1, p.2) (writing_gave_up cards (sim_sources c.args.netlist.now c.args.image.now c.args.trace.now) (g.D.Desk.files c.args.desk.now) _ _ _ c.in_err-write_rows.field-0.0
    (quiet_done _ _ _ c.in_ok-trace.trace c.in_ok-trace.ensures.cause ∙ quiet_done _ _ _ c.in_ok-image.image c.in_ok-image.ensures.cause ∙ quiet_done _ _ _ c.in_ok-flat.flat c.in_ok-flat.ensures.cause) c.in_err-write_rows.ensures.cause c.in_err-write_rows.ensures.not_missing)

pub returns-clause-done : goal.returns-clause-done
returns-clause-done g c = λ cards.
    let flat = c.in_ok-flat.flat in
    let shape = shape_of flat.outside in
    let same = c.read_flat.ensures.same in
    let both = c.read_memories.ensures.same ∙ same in
    let run = lines_exist flat.outside flat.net c.in_ok-image.image c.in_ok-trace.trace c.args.cycles (c.opened_netlists_run.ensures flat c.rules.ensures) c.in_ok-image.ensures.fits c.in_ok-trace.ensures.fits in
    all_written cards c.args.netlist.now c.args.image.now c.args.trace.now c.args.cycles c.args.rows.now (g.D.Desk.files c.args.desk.now) _ _ flat c.in_ok-image.image c.in_ok-trace.trace run.0 (c.read_inputs.ensures.same ∙ both)
    (record {
      flat_is = c.in_ok-flat.ensures.flat;
      image_is = subst (λ t. IsImageAt shape c.args.image.now t c.in_ok-image.image) same c.in_ok-image.ensures.image;
      trace_is = subst (λ t. IsTraceAt shape c.args.trace.now t c.in_ok-trace.trace) both c.in_ok-trace.ensures.trace;
      lines_are = run.1;
    })
    (c.in_ok-write_rows.ensures.ok run.0 (c.in_ok-shown.ensures.shows run.0 run.1))

pub returns-clause-cause : goal.returns-clause-cause
returns-clause-cause g c = λ cards.
    let e = quiet_done _ _ _ c.in_ok-trace.trace c.in_ok-trace.ensures.cause ∙ quiet_done _ _ _ c.in_ok-image.image c.in_ok-image.ensures.cause ∙ quiet_done _ _ _ c.in_ok-flat.flat c.in_ok-flat.ensures.cause in
    kept_done _ _ _ _ (c.in_ok-write_rows.ensures.cause ∙ e)
