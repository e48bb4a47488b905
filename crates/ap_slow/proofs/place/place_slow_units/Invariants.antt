use Rattle.ap_slow.specs.Placed.{PlacesUnits}
use Rattle.ap_slow.proofs.PlacedAll.{slow_before}
use Rattle.ap_slow.proofs.place.place_slow_units.Given as goal

abbrev pub invariant-loop-number : goal.invariant-loop-number
invariant-loop-number l = PlacesUnits l.design l.modules l.places (slow_before l.design l.number) l.made l.fn.out l.out
