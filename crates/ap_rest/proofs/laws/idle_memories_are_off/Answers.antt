use Rattle.ap_rest.proofs.Missing.{missing_memories_have_none}
use Rattle.ap_rest.proofs.Written.{idle_memories_are_off}
use Rattle.ap_rest.proofs.laws.idle_memories_are_off.Goals as goal

pub returns-clause-off : goal.returns-clause-off
returns-clause-off c = idle_memories_are_off c.ports_are_nets.ensures c.rests_are_off.ensures

pub returns-clause-none : goal.returns-clause-none
returns-clause-none c = missing_memories_have_none
