use Rattle.ap_desc.proofs.Composed.{least_of_lines, least_of_ports, least_of_words, none_of_all}
use Rattle.ap_desc.proofs.laws.least_fault_by_phases.Goals as goal

pub returns-clause-lines : goal.returns-clause-lines
returns-clause-lines c = least_of_lines

pub returns-clause-words : goal.returns-clause-words
returns-clause-words c = least_of_words

pub returns-clause-ports : goal.returns-clause-ports
returns-clause-ports c = least_of_ports

pub returns-clause-none : goal.returns-clause-none
returns-clause-none c = none_of_all
