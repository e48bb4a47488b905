use Rattle.std.proofs.Common.{map}
use Rattle.ap_text.specs.Spans.{line_in}
use Rattle.ap_top.specs.Form.{IsDueToken}
use Rattle.ap_top.specs.Found.{token_of}
use Rattle.ap_top.proofs.Matching.{Left}
use Rattle.ap_top.proofs.numbers.Numbers.take_line.Given as goal

-- with the tokens so far the rest decides for the whole line
abbrev pub invariant-loop-i : goal.invariant-loop-i
invariant-loop-i l = Left IsDueToken l.initial.self.found l.self.found (map token_of l.pieces) (line_in l.text l.line).tokens l.i
