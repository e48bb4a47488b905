use Rattle.std.proofs.Common.{◌≡◌, map, drop}
use Rattle.std.specs.List.{starts_with}
use Rattle.std.specs.Str.{bytes_eq}
use Rattle.ap_text.specs.Spans.{line_in}
use Rattle.ap_read.proofs.missing.begins.Given as goal

-- what is left of the words decides
abbrev pub invariant-loop-i : goal.invariant-loop-i
invariant-loop-i l = starts_with bytes_eq (line_in l.text l.line).tokens (map (λ word. word.now) l.words) ≡ starts_with bytes_eq (drop l.i (line_in l.text l.line).tokens) (drop l.i (map (λ word. word.now) l.words))
