use Rattle.ap_staged.proofs.Ports.{file_reads_are_of, known_are_quick, mem_reads_are_of, quick_units_are_of, slow_units_are_of}
use Rattle.ap_staged.proofs.laws.placed_are_of.Goals as goal

pub returns-clause-known : goal.returns-clause-known
returns-clause-known c = known_are_quick

pub returns-clause-quick : goal.returns-clause-quick
returns-clause-quick c = quick_units_are_of

pub returns-clause-slow : goal.returns-clause-slow
returns-clause-slow c = slow_units_are_of

pub returns-clause-files : goal.returns-clause-files
returns-clause-files c = file_reads_are_of

pub returns-clause-mems : goal.returns-clause-mems
returns-clause-mems c = mem_reads_are_of
