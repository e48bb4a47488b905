use Rattle.std.proofs.Common.{◌∙◌}
use Rattle.std.proofs.lemmas.Result.{IfOk-weaker}
use Rattle.ap_image.specs.TraceTexts.{trace_fault}
use Rattle.ap_image.proofs.FirstFaults.{read_back}
use Rattle.ap_image.proofs.TraceWritten.{trace_written}
use Rattle.ap_image.proofs.trace_reading.read_trace.Goals as goal

pub returns-clause-written : goal.returns-clause-written
returns-clause-written c = λ narrow trace fit e short.
    let w = trace_written c.args.shape.now trace c.args.text.now narrow fit e in
    read_back (trace_fault c.args.shape.now) c.args.text.now trace c.read_short.result short w.0 (IfOk-weaker c.read_short.result _ _ (λ read is. is ∙ w.1) c.read_short.ensures.value) c.read_short.ensures.refused
