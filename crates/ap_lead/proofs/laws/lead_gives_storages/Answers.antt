use Rattle.ap_lead.proofs.Led.{lead_gives_files, lead_gives_regs}
use Rattle.ap_lead.proofs.laws.lead_gives_storages.Goals as goal

pub returns-clause-regs : goal.returns-clause-regs
returns-clause-regs c = lead_gives_regs

pub returns-clause-files : goal.returns-clause-files
returns-clause-files c = lead_gives_files
