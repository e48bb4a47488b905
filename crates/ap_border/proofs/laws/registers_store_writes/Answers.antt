use Rattle.ap_border.proofs.RegsStored.{ports_are_shown, regs_are_stored}
use Rattle.ap_border.proofs.laws.registers_store_writes.Goals as goal

pub returns-clause-ports : goal.returns-clause-ports
returns-clause-ports c = ports_are_shown

pub returns-clause-stores : goal.returns-clause-stores
returns-clause-stores c = regs_are_stored
