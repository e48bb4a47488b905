use Rattle.std.proofs.Common.{◌≡◌, map, take}
use Rattle.ap_text.specs.Spans.{line_in}
use Rattle.ap_program.specs.Statements.{program_line}
use Rattle.ap_program.proofs.lines.read_each.Given as goal

-- the lines so far
abbrev pub invariant-loop-line : goal.invariant-loop-line
invariant-loop-line l = l.program.items ≡ map program_line (map (line_in l.text) (take l.line-index l.lines))
