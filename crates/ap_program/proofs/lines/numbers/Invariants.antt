use Rattle.std.proofs.Common.{◌≡◌, Some, map, take}
use Rattle.ap_text.specs.Spans.{bytes_in}
use Rattle.ap_image.specs.TraceTexts.{numbers_in}
use Rattle.ap_program.proofs.lines.numbers.Given as goal

-- the tokens so far are these numbers
abbrev pub invariant-loop-token : goal.invariant-loop-token
invariant-loop-token l = numbers_in (map (bytes_in l.text) (take l.token-index l.tokens)) ≡ Some l.numbers
