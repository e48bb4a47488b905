use Rattle.std.proofs.Common.{◌≡◌, drop}
use Rattle.ap_image.specs.TraceTexts.{are_within}
use Rattle.ap_image.proofs.trace_reading.have_bits.Given as goal

-- those so far fit, so that the others decide
abbrev pub invariant-loop-i : goal.invariant-loop-i
invariant-loop-i l = are_within (drop l.i l.values) (drop l.i l.widths) ≡ are_within l.values l.widths
