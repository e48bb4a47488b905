use Rattle.std.proofs.Common.{◌≡◌, ◌++◌, drop, filter_map}
use Rattle.std.specs.List.{enumerate_from}
use Rattle.ap_model.specs.Ports.{writes_through}
use Rattle.ap_effect.specs.Lines.{line_of, write_lines}
use Rattle.ap_effect.proofs.line.write_lines.Given as goal

-- the lines so far, and those of the instructions from here on
abbrev pub invariant-loop-number : goal.invariant-loop-number
invariant-loop-number l = write_lines l.design l.stage l.port ≡ l.lines ++ filter_map (line_of (writes_through l.port) l.stage) (enumerate_from l.number (drop l.number l.design.instrs))
