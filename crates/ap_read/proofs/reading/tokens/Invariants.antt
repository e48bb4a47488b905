use Rattle.std.proofs.Common.{◌≡◌, map, take}
use Rattle.ap_text.specs.Spans.{bytes_in}
use Rattle.ap_read.proofs.reading.tokens.Given as goal

-- the tokens so far
abbrev pub invariant-loop-span : goal.invariant-loop-span
invariant-loop-span l = map (λ token. token.now) l.tokens.items ≡ map (bytes_in l.text) (take l.span-index l.span-items)
