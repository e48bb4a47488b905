use Rattle.ap_front.proofs.Homes.{homes_are_slots, homes_are_within}
use Rattle.ap_front.proofs.laws.homes_are_slots.Goals as goal

pub returns-clause-slots : goal.returns-clause-slots
returns-clause-slots c = homes_are_slots

pub returns-clause-within : goal.returns-clause-within
returns-clause-within c = homes_are_within
