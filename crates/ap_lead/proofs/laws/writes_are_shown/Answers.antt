use Rattle.ap_lead.proofs.ShownWrites.{file_writes_are_shown, reg_writes_are_shown}
use Rattle.ap_lead.proofs.laws.writes_are_shown.Goals as goal

pub returns-clause-regs : goal.returns-clause-regs
returns-clause-regs c = reg_writes_are_shown

pub returns-clause-files : goal.returns-clause-files
returns-clause-files c = file_writes_are_shown
