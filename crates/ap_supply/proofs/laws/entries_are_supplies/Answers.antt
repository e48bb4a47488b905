use Rattle.ap_supply.proofs.Entries.{entries_are_supplies}
use Rattle.ap_supply.proofs.laws.entries_are_supplies.Goals as goal

pub returns : goal.returns
returns c = entries_are_supplies
