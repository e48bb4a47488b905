use Rattle.ap_desc.specs.Least.{IsFound}
use Rattle.ap_desc.specs.Meaning.{MeetsFault, MeetsMeaningFault, MeetsPortFault, MeetsWordFault}
use Rattle.ap_desc.proofs.LeastFaults.{least_is_one}
use Rattle.ap_desc.proofs.laws.least_fault_is_unique.Goals as goal

pub returns-clause-description : goal.returns-clause-description
returns-clause-description c statements cards = least_is_one (IsFound (MeetsMeaningFault statements cards))

pub returns-clause-text : goal.returns-clause-text
returns-clause-text c text cards = least_is_one (IsFound (MeetsFault text cards))

pub returns-clause-words : goal.returns-clause-words
returns-clause-words c design = least_is_one (IsFound (MeetsWordFault design))

pub returns-clause-ports : goal.returns-clause-ports
returns-clause-ports c design = least_is_one (IsFound (MeetsPortFault design))
