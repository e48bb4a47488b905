use Rattle.std.proofs.Common.{◌≡◌, ◌+◌, length, take}
use Rattle.ap_net.specs.Flat.{equations}
use Rattle.ap_flat.specs.Drivers.{AreEquations}
use Rattle.ap_flat.proofs.driver.equations_of.Given as goal

-- the drivers are those of the equations so far
abbrev pub invariant-loop-assign : goal.invariant-loop-assign
invariant-loop-assign l = record {
  long : length l.drivers.items ≡ length l.opening.nets;
  are : AreEquations (take l.assign-index (equations l.opening)) l.drivers.items;
}

abbrev pub invariant-loop-join : goal.invariant-loop-join
invariant-loop-join l = record {
  long : length l.drivers.items ≡ length l.opening.nets;
  are : AreEquations (take (length l.opening.assigns + l.join-index) (equations l.opening)) l.drivers.items;
}
