use Rattle.std.proofs.Common.{length}
use Rattle.ap_vr.proofs.TextRead.{TextSoFar}
use Rattle.ap_vr.proofs.reading.read_short.Given as goal

abbrev pub invariant-outer : goal.invariant-outer
invariant-outer l = TextSoFar l.text l.modules.items l.began l.ends_in_top l.lines

abbrev pub decreases-outer : goal.decreases-outer
decreases-outer l = length l.lines.rest.now
