use Rattle.ap_commit.proofs.Sized.{transfer_lines_fit, write_lines_fit}
use Rattle.ap_commit.proofs.laws.lines_fit_ports.Goals as goal

pub returns-clause-writes : goal.returns-clause-writes
returns-clause-writes c = write_lines_fit

pub returns-clause-transfers : goal.returns-clause-transfers
returns-clause-transfers c = transfer_lines_fit
