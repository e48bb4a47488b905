use Rattle.std.proofs.Common.{◌≡◌, [], List, map, ap, subst, ◌∙◌}
use Rattle.ap_text.specs.Lines.{TextLine, lines_of}
use Rattle.ap_text.specs.Spans.{line_in}
use Rattle.ap_image.specs.TextFaults.{AreFine}
use Rattle.ap_image.specs.TraceTexts.{trace_fault}
use Rattle.ap_image.proofs.FirstFaults.{faultless_text}
use Rattle.ap_image.proofs.trace_reading.read_short.Goals as goal

pub returns-clause-faultless : goal.returns-clause-faultless
returns-clause-faultless c =
    let lines : map (line_in c.args.text.now) c.as_slice.result.now ≡ lines_of c.args.text.now = ap (map (line_in c.args.text.now)) c.as_slice.ensures.value ∙ c.in_ok-list.ensures.lines in
    faultless_text (trace_fault c.args.shape.now) c.args.text.now c.requires (subst (λ (l : List TextLine). AreFine (trace_fault c.args.shape.now) [] l) lines c.in_ok-trace.ensures.ok.fine)
