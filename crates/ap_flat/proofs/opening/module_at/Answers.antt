use Rattle.std.proofs.Common.{◌<◌, length, Some, rules, sym, ap, ◌∙◌}
use Rattle.std.proofs.lemmas.Option.{slice_get-get_or}
use Rattle.ap_net.specs.Modules.{ModuleText}
use Rattle.ap_flat.proofs.NameLists.{is_placed, module_found, place_low}
use Rattle.ap_flat.proofs.opening.module_at.Goals as goal

pub unwrap-place-requires : goal.unwrap-place-requires
unwrap-place-requires c = is_placed c.args.modules.now c.args.name.now c.args.names.now c.place.result c.requires.names c.requires.found c.place.ensures

pub offset_bounds-modules-place : goal.offset_bounds-modules-place
offset_bounds-modules-place c =
    let inside : c.unwrap-place.result < length c.args.modules.now = place_low (λ (m : ModuleText). m.name) c.args.modules.now c.args.names.now _ c.unwrap-place.result c.requires.names (rw c.unwrap-place.ensures at c.place.ensures) in
    search rules

pub bounds-modules-place : goal.bounds-modules-place
bounds-modules-place c = place_low (λ (m : ModuleText). m.name) c.args.modules.now c.args.names.now _ c.unwrap-place.result c.requires.names (rw c.unwrap-place.ensures at c.place.ensures)

pub returns : goal.returns
returns c =
    let place = c.unwrap-place.result in
    let inside : place < length c.args.modules.now = place_low (λ (m : ModuleText). m.name) c.args.modules.now c.args.names.now _ place c.requires.names (rw c.unwrap-place.ensures at c.place.ensures) in
    module_found c.args.modules.now place c.index-modules-place.result c.args.name.now c.requires.distinct (rw (c.unwrap-place.ensures, c.requires.names) at c.place.ensures)
    (slice_get-get_or c.args.modules.now place c.index-modules-place.result inside ∙ ap Some (sym c.index-modules-place.is))
