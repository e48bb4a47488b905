use Rattle.std.proofs.Common.{take}
use Rattle.ap_ports.specs.Elsewhere.{AreNoted}
use Rattle.ap_ports.proofs.first.note_stages.Given as goal

abbrev pub invariant-loop-micro : goal.invariant-loop-micro
invariant-loop-micro l = AreNoted l.initial.stages l.stages (take l.micro-index l.micros)
