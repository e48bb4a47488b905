use Rattle.ap_front.specs.Ports.{AreMemPorts, mem_of}
use Rattle.ap_front.proofs.Porting.{DeclaresTo}
use Rattle.ap_front.proofs.ports.all_mem_ports.Given as goal

abbrev pub invariant-loop-mem : goal.invariant-loop-mem
invariant-loop-mem l = record {
  made : DeclaresTo mem_of AreMemPorts l.mems l.mem-index l.fn.out l.out l.made;
}
