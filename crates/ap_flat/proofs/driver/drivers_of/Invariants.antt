use Rattle.ap_flat.proofs.Looking.{AreLooked}
use Rattle.ap_flat.proofs.driver.drivers_of.Given as goal

abbrev pub invariant-loop-number : goal.invariant-loop-number
invariant-loop-number l = AreLooked l.opening l.ports l.number l.drivers.items
