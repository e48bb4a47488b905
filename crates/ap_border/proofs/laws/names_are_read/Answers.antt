use Rattle.ap_border.proofs.NamesRead.{names_are_read, parts_are_read, registers_are_read}
use Rattle.ap_border.proofs.laws.names_are_read.Goals as goal

pub returns-clause-nets : goal.returns-clause-nets
returns-clause-nets c = names_are_read

pub returns-clause-registers : goal.returns-clause-registers
returns-clause-registers c = registers_are_read

pub returns-clause-parts : goal.returns-clause-parts
returns-clause-parts c = parts_are_read
