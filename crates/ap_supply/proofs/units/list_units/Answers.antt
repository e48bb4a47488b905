use Rattle.std.proofs.Common.{◌+◌, ◌<◌, arith}
use Rattle.ap_supply.specs.Listing.{IsUnitEntry, IsUnitNumber}
use Rattle.ap_supply.proofs.Listed.{lists_push, unit_or_last}
use Rattle.ap_supply.proofs.Served.{unit_entry}
use Rattle.ap_supply.proofs.units.list_units.Goals as goal

pub loop-place-preserved : goal.loop-place-preserved
loop-place-preserved c =
    let design = c.args.design.now in
    let modules = c.args.modules.now in
    let places = c.args.places.now in
    let slow = c.args.slow.now in
    let place = c.loop-place.place in
    let low : place < 32 = omega arith in
    lists_push (IsUnitEntry design modules places slow) (IsUnitNumber place) (IsUnitNumber (place + 1)) c.args.made.now c.loop-place.made c.push.new.self _ c.in_ok-push.ensures.ok c.loop-place.invariant
    (unit_entry design modules places slow _ low c.unit_supply-supply.ensures) (unit_or_last place)
