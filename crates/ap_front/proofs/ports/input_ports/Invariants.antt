use Rattle.ap_front.specs.Ports.{IsInput, input_of}
use Rattle.ap_front.proofs.Porting.{DeclaresTo}
use Rattle.ap_front.proofs.ports.input_ports.Given as goal

abbrev pub invariant-loop-input : goal.invariant-loop-input
invariant-loop-input l = record {
  made : DeclaresTo input_of IsInput l.inputs l.input-index l.fn.out l.out l.made;
}
