use Rattle.std.proofs.Common.{◌≡◌, ◌++◌, drop, filter_map}
use Rattle.std.specs.List.{enumerate_from}
use Rattle.ap_desc.specs.Ports.{is_transfer}
use Rattle.ap_effect.specs.Lines.{line_of, transfer_lines}
use Rattle.ap_effect.proofs.line.transfer_lines.Given as goal

-- the lines so far, and those of the instructions from here on
abbrev pub invariant-loop-number : goal.invariant-loop-number
invariant-loop-number l = transfer_lines l.design l.stage ≡ l.lines ++ filter_map (line_of (is_transfer) l.stage) (enumerate_from l.number (drop l.number l.design.instrs))
