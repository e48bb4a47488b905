use Rattle.std.proofs.Common.{◌≡◌, Some, map, take}
use Rattle.ap_text.specs.Spans.{bytes_in}
use Rattle.ap_program.specs.Statements.{operands_in}
use Rattle.ap_program.proofs.lines.operands_in.Given as goal

-- the tokens so far are these operands
abbrev pub invariant-loop-token : goal.invariant-loop-token
invariant-loop-token l = operands_in (map (bytes_in l.text) (take l.token-index l.tokens)) ≡ Some l.operands
