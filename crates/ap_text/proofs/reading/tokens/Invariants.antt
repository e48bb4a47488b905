use Rattle.ap_text.proofs.Tokens.{TokensSoFar}
use Rattle.ap_text.proofs.reading.tokens.Given as goal

abbrev pub invariant-loop-at : goal.invariant-loop-at
invariant-loop-at l = TokensSoFar l.text l.code l.spans l.from l.at
