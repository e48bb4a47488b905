use Rattle.ap_steps.proofs.PortNumbers.{known_are_seen, memories_are_looked_at, ports_are_numbered}
use Rattle.ap_steps.proofs.laws.ports_are_numbered.Goals as goal

pub returns-clause-numbers : goal.returns-clause-numbers
returns-clause-numbers c = ports_are_numbered

pub returns-clause-memories : goal.returns-clause-memories
returns-clause-memories c = memories_are_looked_at

pub returns-clause-seen : goal.returns-clause-seen
returns-clause-seen c = known_are_seen
