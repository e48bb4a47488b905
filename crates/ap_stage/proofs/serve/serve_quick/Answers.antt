use Rattle.std.proofs.Common.{[], ◌∷◌, sym, subst, ◌∙◌}
use Rattle.std.specs.List.{AllByRecursion as Each}
use Rattle.ap_net.proofs.Laws.{Carries-Makes, Carries-Extends, IsNet-Makes, Makes-trans, meant}
use Rattle.ap_merge.specs.Selects.{depth}
use Rattle.ap_stage.specs.Courses.{IsResultWide, courses_numbers, users_of}
use Rattle.ap_stage.proofs.Lined.{ground_adds, ground_on}
use Rattle.ap_stage.proofs.Ported.{fit_first, fit_second, from_quick, low_four, operated, places_between, wide_unit}
use Rattle.ap_stage.proofs.Shallow.{shallow_on}
use Rattle.ap_stage.proofs.Users.{can_on, courses_on, gives_on}
use Rattle.ap_stage.proofs.serve.serve_quick.Goals as goal

pub part_chosen-requires-2-clause-ground : goal.part_chosen-requires-2-clause-ground
part_chosen-requires-2-clause-ground c = ground_on _ _ c.args.ground.now c.in_ok-sel.ensures.makes c.requires.ground

pub part_chosen-requires-2-clause-courses : goal.part_chosen-requires-2-clause-courses
part_chosen-requires-2-clause-courses c = courses_on _ _ c.args.ground.now c.args.courses.now c.in_ok-sel.ensures.makes.adds c.requires.courses

pub part_chosen-requires-2-clause-fit : goal.part_chosen-requires-2-clause-fit
part_chosen-requires-2-clause-fit c = fit_first c.args.ground.now c.args.unit.now.select_width c.args.unit.now.width (users_of c.args.unit.now.port c.args.courses.now) c.requires.unit.fit

pub part_chosen-requires-3-clause-ground : goal.part_chosen-requires-3-clause-ground
part_chosen-requires-3-clause-ground c = ground_on _ _ c.args.ground.now (Makes-trans _ _ _ c.in_ok-sel.ensures.makes c.in_ok-a.ensures.makes) c.requires.ground

pub part_chosen-requires-3-clause-courses : goal.part_chosen-requires-3-clause-courses
part_chosen-requires-3-clause-courses c = courses_on _ _ c.args.ground.now c.args.courses.now (Makes-trans _ _ _ c.in_ok-sel.ensures.makes c.in_ok-a.ensures.makes).adds c.requires.courses

pub part_chosen-requires-3-clause-fit : goal.part_chosen-requires-3-clause-fit
part_chosen-requires-3-clause-fit c = fit_second c.args.ground.now c.args.unit.now.select_width c.args.unit.now.width (users_of c.args.unit.now.port c.args.courses.now) c.requires.unit.fit

pub place_quick-requires-clause-sel : goal.place_quick-requires-clause-sel
place_quick-requires-clause-sel c = IsNet-Makes _ _ c.in_ok-sel.sel (Makes-trans _ _ _ c.in_ok-a.ensures.makes c.in_ok-b.ensures.makes) c.in_ok-sel.ensures.carries.net

pub place_quick-requires-clause-a : goal.place_quick-requires-clause-a
place_quick-requires-clause-a c = IsNet-Makes _ _ c.in_ok-a.a c.in_ok-b.ensures.makes c.in_ok-a.ensures.carries.net

pub take_results-requires-clause-ground : goal.take_results-requires-clause-ground
take_results-requires-clause-ground c =
    ground_adds _ _ c.args.ground.now c.in_ok-y.ensures.places.places.adds (ground_on _ _ c.args.ground.now (Makes-trans _ _ _ (Makes-trans _ _ _ c.in_ok-sel.ensures.makes c.in_ok-a.ensures.makes) c.in_ok-b.ensures.makes) c.requires.ground)

pub take_results-requires-clause-courses : goal.take_results-requires-clause-courses
take_results-requires-clause-courses c =
    courses_on _ _ c.args.ground.now c.args.courses.now c.in_ok-y.ensures.places.places.adds
    (courses_on _ _ c.args.ground.now c.args.courses.now (Makes-trans _ _ _ (Makes-trans _ _ _ c.in_ok-sel.ensures.makes c.in_ok-a.ensures.makes) c.in_ok-b.ensures.makes).adds c.requires.courses)

pub take_results-requires-clause-wide : goal.take_results-requires-clause-wide
take_results-requires-clause-wide c =
    subst (λ n. Each (IsResultWide n c.args.unit.now.port) c.args.courses.now) (sym (c.in_ok-y.ensures.carries.wide ∙ c.in_ok-a.ensures.carries.wide))
    (wide_unit c.args.ground.now c.args.unit.now.select_width c.args.unit.now.width c.args.unit.now.port c.args.courses.now c.requires.unit.fit)

pub returns-clause-served : goal.returns-clause-served
returns-clause-served c =
    let port = c.args.unit.now.port in
    let ground = c.args.ground.now in
    let results = c.in_ok-take_results.ensures in
    let y = c.in_ok-y.ensures in
    let placed = y.places.places.adds.extends in
    let both = Makes-trans _ _ _ c.in_ok-a.ensures.makes c.in_ok-b.ensures.makes in
    let gives = operated _ ground c.args.whole.now.name c.args.unit.now.select_width c.args.unit.now.width (users_of port c.args.courses.now) c.in_ok-sel.sel c.in_ok-a.a c.in_ok-b.b c.in_ok-y.y c.in_ok-a.ensures.carries.wide
    (Carries-Extends placed (Carries-Makes both c.in_ok-sel.ensures.carries)) (Carries-Extends placed (Carries-Makes c.in_ok-b.ensures.makes c.in_ok-a.ensures.carries)) (Carries-Extends placed c.in_ok-b.ensures.carries) y.carries in
    record {
      y = c.in_ok-y.y;
      can = can_on port port c.args.courses.now _ results.go_on c.requires.can;
      gives = Carries-Makes results.makes (meant (λ r s h. gives_on port port c.args.unit.now.width ground c.args.whole.now.name c.args.courses.now _ r (r.read c.in_ok-y.y.number) results.go_on c.requires.can h) gives);
      has = results.has;
    }

pub returns-clause-places : goal.returns-clause-places
returns-clause-places c =
    let deep = depth c.args.unit.now.select in
    let y = c.in_ok-y.ensures in
    let results = c.in_ok-take_results.ensures in
    let both = Makes-trans _ _ _ c.in_ok-a.ensures.makes c.in_ok-b.ensures.makes in
    let placed = y.places.places.adds.extends in
    let nets = c.in_ok-sel.sel ∷ c.in_ok-a.a ∷ c.in_ok-b.b ∷ c.in_ok-y.y ∷ [] in
    record {
      nets = nets;
      places = places_between _ _ _ _ c.args.unit.now.name c.args.whole.now nets (Makes-trans _ _ _ c.in_ok-sel.ensures.makes both) (rw c.as_slice.ensures at y.places) results.makes;
      low = low_four _ _ deep c.in_ok-sel.sel c.in_ok-a.a c.in_ok-b.b c.in_ok-y.y results.makes.adds.extends
          (shallow_on _ _ deep c.in_ok-sel.sel.number placed (shallow_on _ _ deep c.in_ok-sel.sel.number both.adds.extends c.in_ok-sel.ensures.low))
          (shallow_on _ _ deep c.in_ok-a.a.number placed (shallow_on _ _ deep c.in_ok-a.a.number c.in_ok-b.ensures.makes.adds.extends c.in_ok-a.ensures.low))
          (shallow_on _ _ deep c.in_ok-b.b.number placed c.in_ok-b.ensures.low) y.shallow;
    }

pub returns-clause-from : goal.returns-clause-from
returns-clause-from c =
    from_quick (courses_numbers c.args.ground.now c.args.courses.now) _ _ _ _ _ _ _ c.in_ok-sel.sel c.in_ok-a.a c.in_ok-b.b c.in_ok-y.y c.in_ok-sel.ensures.yields c.in_ok-a.ensures.yields c.in_ok-b.ensures.yields c.in_ok-y.ensures.yields
    c.in_ok-take_results.ensures.from
