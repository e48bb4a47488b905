use Rattle.std.proofs.Common.{◌<◌, get_or, length, refl, rules}
use Rattle.std.proofs.lemmas.Option.{slice_get-get_or, slice_get_within}
use Rattle.ap_ctl.proofs.Beside.{item_at}
use Rattle.ap_rest.proofs.IdleAll.{own_module, place_low}
use Rattle.ap_rest.proofs.idle.place_own.Goals as goal

pub bounds-places-at : goal.bounds-places-at
bounds-places-at c = slice_get_within c.args.places.now c.args.number c.requires.has.stands.place c.requires.has.stands.there

pub offset_bounds-modules-place : goal.offset_bounds-modules-place
offset_bounds-modules-place c =
    let low : c.args.number < length c.args.places.now = slice_get_within c.args.places.now c.args.number c.requires.has.stands.place c.requires.has.stands.there in
    let there = slice_get-get_or c.args.places.now c.args.number 0 low in
    let inside : (get_or c.args.places.now c.args.number 0) < length c.args.modules.now = place_low c.args.modules.now c.args.places.now c.args.number (get_or c.args.places.now c.args.number 0) c.args.unit.now c.requires.has there in
    search rules

pub bounds-modules-place : goal.bounds-modules-place
bounds-modules-place c =
    let low : c.args.number < length c.args.places.now = slice_get_within c.args.places.now c.args.number c.requires.has.stands.place c.requires.has.stands.there in
    let there = slice_get-get_or c.args.places.now c.args.number 0 low in
    place_low c.args.modules.now c.args.places.now c.args.number (get_or c.args.places.now c.args.number 0) c.args.unit.now c.requires.has there

pub place_idle-requires-clause-has : goal.place_idle-requires-clause-has
place_idle-requires-clause-has c =
    let low : c.args.number < length c.args.places.now = slice_get_within c.args.places.now c.args.number c.requires.has.stands.place c.requires.has.stands.there in
    let there = slice_get-get_or c.args.places.now c.args.number 0 low in
    let inside = place_low c.args.modules.now c.args.places.now c.args.number (get_or c.args.places.now c.args.number 0) c.args.unit.now c.requires.has there in
    let at = item_at c.args.modules.now c.args.modules.now (get_or c.args.places.now c.args.number 0) c.index-modules-place.result refl inside c.index-modules-place.is in
    (own_module c.args.modules.now c.args.places.now c.args.number (get_or c.args.places.now c.args.number 0) c.args.unit.now c.index-modules-place.result c.requires.has there at).0

pub returns : goal.returns
returns c =
    let low : c.args.number < length c.args.places.now = slice_get_within c.args.places.now c.args.number c.requires.has.stands.place c.requires.has.stands.there in
    let there = slice_get-get_or c.args.places.now c.args.number 0 low in
    let inside = place_low c.args.modules.now c.args.places.now c.args.number (get_or c.args.places.now c.args.number 0) c.args.unit.now c.requires.has there in
    let at = item_at c.args.modules.now c.args.modules.now (get_or c.args.places.now c.args.number 0) c.index-modules-place.result refl inside c.index-modules-place.is in
    record { whole = c.index-modules-place.result; stands = (own_module c.args.modules.now c.args.places.now c.args.number (get_or c.args.places.now c.args.number 0) c.args.unit.now c.index-modules-place.result c.requires.has there at).1; placed = c.in_ok-place_idle.ensures }
