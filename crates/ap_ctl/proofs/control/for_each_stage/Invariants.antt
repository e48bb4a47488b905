use Rattle.std.proofs.Common.{◌≡◌, replicate}
use Rattle.ap_ctl.proofs.control.for_each_stage.Given as goal

abbrev pub invariant-loop : goal.invariant-loop
invariant-loop l = l.nets ≡ replicate l.counter l.net
