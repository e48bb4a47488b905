use Rattle.ap_values.proofs.Effects.{leaves_by_data, transfers_by_data, writes_by_data}
use Rattle.ap_values.proofs.laws.effects_are_by_data.Goals as goal

pub returns-clause-writes : goal.returns-clause-writes
returns-clause-writes c = writes_by_data

pub returns-clause-transfer : goal.returns-clause-transfer
returns-clause-transfer c = transfers_by_data

pub returns-clause-leaves : goal.returns-clause-leaves
returns-clause-leaves c = leaves_by_data
