use Rattle.std.proofs.Common.{◌≡◌}
use Rattle.ap_signals.specs.NetSignals.{by_stage}
use Rattle.ap_front.specs.Driven.{at_stage, no_registers}
use Rattle.ap_front.proofs.Comings.{ComeTo}
use Rattle.ap_front.proofs.coming.comings.Given as goal

abbrev pub invariant-loop-number : goal.invariant-loop-number
invariant-loop-number l = record {
  made : ComeTo l.registers l.fn.idata l.hold l.locals l.number l.made;
  word : l.word ≡ by_stage l.fn.idata (λ s. (at_stage no_registers l.registers.stages s).word) l.number;
  place : l.place ≡ by_stage l.registers.pc (λ s. (at_stage no_registers l.registers.stages s).place) l.number;
}
