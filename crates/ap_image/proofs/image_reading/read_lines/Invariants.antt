use Rattle.std.proofs.Common.{map, take}
use Rattle.ap_text.specs.Spans.{line_in}
use Rattle.ap_image.specs.SoFar.{IsSoFar}
use Rattle.ap_image.proofs.image_reading.read_lines.Given as goal

abbrev pub invariant-loop-line : goal.invariant-loop-line
invariant-loop-line l = IsSoFar l.shape (take l.line-index (map (line_in l.text) l.lines)) l.so_far
