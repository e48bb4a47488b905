use Rattle.ap_data.proofs.Slotted.{slots_stand}
use Rattle.ap_data.proofs.laws.slots_stand.Goals as goal

pub returns : goal.returns
returns c = slots_stand
