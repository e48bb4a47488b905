use Rattle.ap_effect.proofs.Entries.{over_transfers, over_writes}
use Rattle.ap_effect.proofs.laws.choices_go_over_lines.Goals as goal

pub returns-clause-writes : goal.returns-clause-writes
returns-clause-writes c = over_writes

pub returns-clause-transfers : goal.returns-clause-transfers
returns-clause-transfers c = over_transfers c.clean_ports_are_apart.ensures
