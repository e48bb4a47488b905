use Rattle.std.proofs.Common.{map, take}
use Rattle.ap_text.specs.Spans.{line_in}
use Rattle.ap_image.specs.TraceTexts.{IsTraceOf}
use Rattle.ap_image.proofs.trace_reading.read_cycles.Given as goal

-- the lines so far are the cycles
abbrev pub invariant-loop-line : goal.invariant-loop-line
invariant-loop-line l = IsTraceOf l.shape (take l.line-index (map (line_in l.text) l.lines)) (record { lines = l.cycles })
