use Rattle.ap_bank.specs.LateNets.{DeclaresLate}
use Rattle.ap_bank.proofs.late.late_nets.Given as goal

abbrev pub invariant-loop : goal.invariant-loop
invariant-loop l = DeclaresLate l.counter l.width l.made l.fn.out l.out
