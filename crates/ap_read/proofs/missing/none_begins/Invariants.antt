use Rattle.std.proofs.Common.{◌≡◌, map, false, take}
use Rattle.std.specs.List.{list_any}
use Rattle.ap_text.specs.Spans.{line_in}
use Rattle.ap_desc.specs.Faults.{begins}
use Rattle.ap_read.proofs.missing.none_begins.Given as goal

-- none so far begins so
abbrev pub invariant-loop-line : goal.invariant-loop-line
invariant-loop-line l = list_any (begins (map (λ word. word.now) l.words)) (take l.line-index (map (line_in l.text) l.lines)) ≡ false
