use Rattle.std.proofs.Common.{◌≡◌, map, false, take}
use Rattle.std.specs.List.{fold}
use Rattle.ap_text.specs.Spans.{line_in}
use Rattle.ap_desc.specs.Faults.{open_after}
use Rattle.ap_read.proofs.missing.is_left_open.Given as goal

-- whether an instruction is open after the lines so far
abbrev pub invariant-loop-line : goal.invariant-loop-line
invariant-loop-line l = l.is_open ≡ fold open_after false (take l.line-index (map (line_in l.text) l.lines))
