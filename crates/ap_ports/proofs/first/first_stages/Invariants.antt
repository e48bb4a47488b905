use Rattle.std.proofs.Common.{None, replicate, take}
use Rattle.ap_ports.specs.Elsewhere.{AreNoted}
use Rattle.ap_ports.proofs.Elsewhere.{micros_of}
use Rattle.ap_ports.proofs.first.first_stages.Given as goal

abbrev pub invariant-loop-instr : goal.invariant-loop-instr
invariant-loop-instr l = AreNoted (replicate 153 None) l.stages (micros_of (take l.instr-index l.design.instrs))
