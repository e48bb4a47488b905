use Rattle.ap_steps.proofs.Known.{known_registers_stay, sources_are_known}
use Rattle.ap_steps.proofs.laws.sources_are_known.Goals as goal

pub returns-clause-sources : goal.returns-clause-sources
returns-clause-sources c = sources_are_known

pub returns-clause-registers : goal.returns-clause-registers
returns-clause-registers c = known_registers_stay
