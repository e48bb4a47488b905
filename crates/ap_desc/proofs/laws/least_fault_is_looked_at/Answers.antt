use Rattle.ap_desc.specs.Meaning.{MeetsFault, MeetsMeaningFault, MeetsPortFault, MeetsWordFault}
use Rattle.ap_desc.proofs.LeastFaults.{found_from_least, least_from_found}
use Rattle.ap_desc.proofs.laws.least_fault_is_looked_at.Goals as goal

pub returns-clause-description : goal.returns-clause-description
returns-clause-description c statements cards refusal = (found_from_least (MeetsMeaningFault statements cards) refusal, least_from_found (MeetsMeaningFault statements cards) refusal)

pub returns-clause-text : goal.returns-clause-text
returns-clause-text c text cards refusal = (found_from_least (MeetsFault text cards) refusal, least_from_found (MeetsFault text cards) refusal)

pub returns-clause-words : goal.returns-clause-words
returns-clause-words c design refusal = (found_from_least (MeetsWordFault design) refusal, least_from_found (MeetsWordFault design) refusal)

pub returns-clause-ports : goal.returns-clause-ports
returns-clause-ports c design refusal = (found_from_least (MeetsPortFault design) refusal, least_from_found (MeetsPortFault design) refusal)
