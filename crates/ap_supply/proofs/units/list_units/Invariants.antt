use Rattle.ap_supply.specs.Listing.{IsUnitEntry, IsUnitNumber, Lists}
use Rattle.ap_supply.proofs.units.list_units.Given as goal

-- the units so far
abbrev pub invariant-loop-place : goal.invariant-loop-place
invariant-loop-place l = Lists (IsUnitEntry l.design l.modules l.places l.slow) (IsUnitNumber l.place) l.fn.made l.made
