use Rattle.ap_rest.proofs.Standing.{idle_reads_are_late, idle_writes_are_late}
use Rattle.ap_rest.proofs.laws.idle_nets_are_late.Goals as goal

pub returns-clause-reads : goal.returns-clause-reads
returns-clause-reads c = idle_reads_are_late

pub returns-clause-writes : goal.returns-clause-writes
returns-clause-writes c = idle_writes_are_late
