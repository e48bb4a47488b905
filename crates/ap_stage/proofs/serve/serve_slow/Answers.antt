use Rattle.std.proofs.Common.{[], ◌∷◌, sym, subst}
use Rattle.std.specs.List.{AllByRecursion as Each}
use Rattle.ap_net.proofs.Laws.{Adds-trans, Extends-trans, IsNet-Adds}
use Rattle.ap_stage.specs.declared.user.Part.TheVariants as part
use Rattle.ap_stage.specs.Courses.{FitsPart, IsResultWide, courses_numbers, users_of}
use Rattle.ap_stage.proofs.Driven.{came_later, ready_on, serves_later, serves_made}
use Rattle.ap_stage.proofs.Lined.{ground_adds}
use Rattle.ap_stage.proofs.Ported.{fit_first, fit_second, from_ready, given_ready, late_ready, part_on, wide_unit}
use Rattle.ap_stage.proofs.Shallow.{shallow_on}
use Rattle.ap_stage.proofs.Users.{can_on, courses_on}
use Rattle.ap_stage.proofs.serve.serve_slow.Goals as goal

pub drive_part-requires-2-clause-ground : goal.drive_part-requires-2-clause-ground
drive_part-requires-2-clause-ground c = ground_adds _ _ c.args.ground.now c.in_ok-drive_part.ensures.drives.serves.adds c.requires.ground

pub drive_part-requires-2-clause-courses : goal.drive_part-requires-2-clause-courses
drive_part-requires-2-clause-courses c = courses_on _ _ c.args.ground.now c.args.courses.now c.in_ok-drive_part.ensures.drives.serves.adds c.requires.courses

pub drive_part-requires-2-clause-fit : goal.drive_part-requires-2-clause-fit
drive_part-requires-2-clause-fit c = fit_first c.args.ground.now c.args.unit.now.sel.width c.args.unit.now.a.width (users_of c.args.unit.now.port c.args.courses.now) c.requires.unit.fit

pub drive_part-requires-3-clause-ground : goal.drive_part-requires-3-clause-ground
drive_part-requires-3-clause-ground c = ground_adds _ _ c.args.ground.now c.in_ok-drive_part-2.ensures.drives.serves.adds (ground_adds _ _ c.args.ground.now c.in_ok-drive_part.ensures.drives.serves.adds c.requires.ground)

pub drive_part-requires-3-clause-courses : goal.drive_part-requires-3-clause-courses
drive_part-requires-3-clause-courses c =
    courses_on _ _ c.args.ground.now c.args.courses.now (Adds-trans _ _ _ c.in_ok-drive_part.ensures.drives.serves.adds c.in_ok-drive_part-2.ensures.drives.serves.adds) c.requires.courses

pub drive_part-requires-3-clause-fit : goal.drive_part-requires-3-clause-fit
drive_part-requires-3-clause-fit c =
    subst (λ n. Each (FitsPart c.args.ground.now n part.Second) (users_of c.args.unit.now.port c.args.courses.now)) (sym c.requires.unit.same)
    (fit_second c.args.ground.now c.args.unit.now.sel.width c.args.unit.now.a.width (users_of c.args.unit.now.port c.args.courses.now) c.requires.unit.fit)

pub take_results-requires-clause-ground : goal.take_results-requires-clause-ground
take_results-requires-clause-ground c =
    ground_adds _ _ c.args.ground.now (Adds-trans _ _ _ (Adds-trans _ _ _ c.in_ok-drive_part.ensures.drives.serves.adds c.in_ok-drive_part-2.ensures.drives.serves.adds) c.in_ok-drive_part-3.ensures.drives.serves.adds) c.requires.ground

pub take_results-requires-clause-courses : goal.take_results-requires-clause-courses
take_results-requires-clause-courses c =
    courses_on _ _ c.args.ground.now c.args.courses.now (Adds-trans _ _ _ (Adds-trans _ _ _ c.in_ok-drive_part.ensures.drives.serves.adds c.in_ok-drive_part-2.ensures.drives.serves.adds) c.in_ok-drive_part-3.ensures.drives.serves.adds) c.requires.courses

pub take_results-requires-clause-y : goal.take_results-requires-clause-y
take_results-requires-clause-y c =
    IsNet-Adds _ _ c.args.unit.now.y (Adds-trans _ _ _ (Adds-trans _ _ _ c.in_ok-drive_part.ensures.drives.serves.adds c.in_ok-drive_part-2.ensures.drives.serves.adds) c.in_ok-drive_part-3.ensures.drives.serves.adds) c.requires.unit.y.net

pub take_results-requires-clause-wide : goal.take_results-requires-clause-wide
take_results-requires-clause-wide c =
    subst (λ n. Each (IsResultWide n c.args.unit.now.port) c.args.courses.now) (sym c.requires.unit.wide)
    (wide_unit c.args.ground.now c.args.unit.now.sel.width c.args.unit.now.a.width c.args.unit.now.port c.args.courses.now c.requires.unit.fit)

pub take_results-requires-clause-low : goal.take_results-requires-clause-low
take_results-requires-clause-low c =
    shallow_on _ _ 0 c.args.unit.now.y.number (Adds-trans _ _ _ (Adds-trans _ _ _ c.in_ok-drive_part.ensures.drives.serves.adds c.in_ok-drive_part-2.ensures.drives.serves.adds) c.in_ok-drive_part-3.ensures.drives.serves.adds).extends c.requires.unit.y.low

pub returns-clause-served : goal.returns-clause-served
returns-clause-served c =
    let port = c.args.unit.now.port in
    let ground = c.args.ground.now in
    let courses = c.args.courses.now in
    let select = c.args.unit.now.select in
    let y = c.in_ok-take_results.ensures in
    let last = y.makes.adds.extends in
    let third = c.in_ok-drive_part-3.ensures.drives.serves.adds.extends in
    let second = c.in_ok-drive_part-2.ensures.drives.serves.adds.extends in
    let after_two = Extends-trans _ _ _ third last in
    record {
      can = can_on port port courses _ y.go_on c.requires.can;
      sel = part_on port port _ _ ground courses _ part.Operation select c.args.unit.now.sel (Extends-trans _ _ _ second after_two) y.go_on c.requires.can c.in_ok-drive_part.ensures.part;
      a = part_on port port _ _ ground courses _ part.First select c.args.unit.now.a after_two y.go_on c.requires.can c.in_ok-drive_part-2.ensures.part;
      b = part_on port port _ _ ground courses _ part.Second select c.args.unit.now.b last y.go_on c.requires.can c.in_ok-drive_part-3.ensures.part;
      has = y.has;
    }

pub returns-clause-serves : goal.returns-clause-serves
returns-clause-serves c =
    let y = c.in_ok-take_results.ensures in
    let u = c.args.unit.now in
    serves_later [] [] (u.sel ∷ []) (u.a ∷ u.b ∷ []) _ _ _ c.in_ok-drive_part.ensures.drives.serves
    (serves_later [] [] (u.a ∷ []) (u.b ∷ []) _ _ _ c.in_ok-drive_part-2.ensures.drives.serves
    (serves_later [] [] (u.b ∷ []) [] _ _ _ c.in_ok-drive_part-3.ensures.drives.serves (serves_made _ _ y.makes y.from.reads.late)))

pub returns-clause-ready : goal.returns-clause-ready
returns-clause-ready c = λ by base ready nodes.
    let from = courses_numbers c.args.ground.now c.args.courses.now in
    let u = c.args.unit.now in
    let start = c.args.out.now in
    let o1 = c.drive_part.new.out in
    let o2 = c.drive_part-2.new.out in
    let o3 = c.drive_part-3.new.out in
    let o4 = c.take_results.new.out in
    let one = c.in_ok-drive_part.ensures.drives in
    let two = c.in_ok-drive_part-2.ensures.drives in
    let three = c.in_ok-drive_part-3.ensures.drives in
    let e1 = one.serves.adds.extends in
    let e2 = two.serves.adds.extends in
    let e3 = three.serves.adds.extends in
    let e23 = Extends-trans _ _ _ e2 e3 in
    let e123 = Extends-trans _ _ _ e1 e23 in
    let ready1 = ready_on by base _ _ from e1 ready in
    let ready2 = ready_on by base _ _ from e2 ready1 in
    let ready3 = ready_on by base _ _ from e3 ready2 in
    let first = late_ready by base from u.sel _ _ ready one in
    let second = late_ready by base from u.a _ _ ready1 two in
    let third = late_ready by base from u.b _ _ ready2 three in
    let sel = (ready_on by base _ _ (u.sel.number ∷ []) e23 first.nets_are).0 in
    let a = (ready_on by base _ _ (u.a.number ∷ []) e3 second.nets_are).0 in
    let b = third.nets_are.0 in
    let given = given_ready by base (u.sel.number ∷ u.a.number ∷ u.b.number ∷ []) _ _ u.y.number e123 nodes.0 (sel, (a, (b, tt))) in
    let y = c.in_ok-take_results.ensures in
    let later = y.makes.adds.extends in
    let then = from_ready by base (u.y.number ∷ from) _ _ _ (given, ready3) y.from in
    let wires = ready_on by base _ _ (u.sel.number ∷ u.a.number ∷ u.b.number ∷ []) later (sel, (a, (b, tt))) in
    record {
      came = came_later by base start o3 o4 later (came_later by base start o2 o3 e3 (came_later by base start o1 o2 e2 first.came second.came) third.came) then.came;
      wires = (wires.0, (wires.1.0, (wires.1.1.0, tt)));
      rows = then.nets_are;
    }
