use Rattle.ap_staged.proofs.Led.{lead_files_stand, leads_bank_reads, leads_have_read_nets, leads_name_shared}
use Rattle.ap_staged.proofs.laws.leads_serve_stages.Goals as goal

pub returns-clause-shared : goal.returns-clause-shared
returns-clause-shared c = leads_name_shared

pub returns-clause-nets : goal.returns-clause-nets
returns-clause-nets c = leads_have_read_nets

pub returns-clause-reads : goal.returns-clause-reads
returns-clause-reads c = leads_bank_reads

pub returns-clause-stand : goal.returns-clause-stand
returns-clause-stand c = lead_files_stand
