use Rattle.std.proofs.Common.{subst, sym}
use Rattle.ap_image.specs.TraceTexts.{trace_fault}
use Rattle.ap_image.specs.TextFaults.{IsTextFault}
use Rattle.ap_net.specs.Outside.{shape_of}
use Rattle.ap_top.specs.Simulation.{IsTraceIn, IsTraceRefused, StopsIn}
use Rattle.ap_top.proofs.Simulation.{trace_in}
use Rattle.ap_top.proofs.simulating.trace_in.Goals as goal

pub returns-in-Ok-clause-trace : goal.returns-in-Ok-clause-trace
returns-in-Ok-clause-trace c = subst (λ s. IsTraceIn s c.args.text.now c.in-Ok.trace) c.shape.ensures (c.in-Ok.ensures.faultless, c.in-Ok.ensures.value)

pub returns-in-Err-clause-refused : goal.returns-in-Err-clause-refused
returns-in-Err-clause-refused c =
    let shape = shape_of c.args.flat.now.outside in
    subst (λ s. StopsIn (IsTraceRefused shape) c.args.text.now s) (sym c.stop_of_trace.ensures)
    (trace_in shape c.args.text.now c.in-Err.fault (subst (λ s. IsTextFault (trace_fault s) c.args.text.now c.in-Err.fault) c.shape.ensures c.in-Err.ensures.refused))
