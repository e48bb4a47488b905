use Rattle.ap_text.proofs.LineLists.{LinesSoFar}
use Rattle.ap_text.proofs.reading.lines.Given as goal

abbrev pub invariant-loop-at : goal.invariant-loop-at
invariant-loop-at l = LinesSoFar l.text l.list.items l.number l.from l.at
