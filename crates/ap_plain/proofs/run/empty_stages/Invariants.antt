use Rattle.std.proofs.Common.{◌≡◌, None, replicate}
use Rattle.ap_plain.proofs.run.empty_stages.Given as goal

abbrev pub invariant-loop : goal.invariant-loop
invariant-loop l = l.flights ≡ replicate l.counter None
