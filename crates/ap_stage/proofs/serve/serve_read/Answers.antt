use Rattle.std.proofs.Common.{[], ◌∷◌}
use Rattle.ap_net.proofs.Laws.{IsNet-Adds}
use Rattle.ap_stage.specs.declared.user.Part.TheVariants as part
use Rattle.ap_stage.specs.Courses.{courses_numbers}
use Rattle.ap_stage.proofs.Driven.{came_later, ready_on, serves_later, serves_made}
use Rattle.ap_stage.proofs.Lined.{ground_adds}
use Rattle.ap_stage.proofs.Ported.{from_ready, given_ready, late_ready, part_on, wide_read}
use Rattle.ap_stage.proofs.Shallow.{shallow_on}
use Rattle.ap_stage.proofs.Users.{can_on, courses_on}
use Rattle.ap_stage.proofs.serve.serve_read.Goals as goal

pub take_results-requires-clause-ground : goal.take_results-requires-clause-ground
take_results-requires-clause-ground c = ground_adds _ _ c.args.ground.now c.in_ok-drive_part.ensures.drives.serves.adds c.requires.ground

pub take_results-requires-clause-courses : goal.take_results-requires-clause-courses
take_results-requires-clause-courses c = courses_on _ _ c.args.ground.now c.args.courses.now c.in_ok-drive_part.ensures.drives.serves.adds c.requires.courses

pub take_results-requires-clause-y : goal.take_results-requires-clause-y
take_results-requires-clause-y c = IsNet-Adds _ _ c.args.read.now.value c.in_ok-drive_part.ensures.drives.serves.adds c.requires.read.value.net

pub take_results-requires-clause-wide : goal.take_results-requires-clause-wide
take_results-requires-clause-wide c = wide_read c.args.ground.now c.args.read.now.index.width c.args.read.now.value.width c.args.read.now.port c.args.courses.now c.requires.read.fit

pub take_results-requires-clause-low : goal.take_results-requires-clause-low
take_results-requires-clause-low c = shallow_on _ _ 0 c.args.read.now.value.number c.in_ok-drive_part.ensures.drives.serves.adds.extends c.requires.read.value.low

pub returns-clause-served : goal.returns-clause-served
returns-clause-served c =
    let port = c.args.read.now.port in
    let y = c.in_ok-take_results.ensures in
    record {
      can = can_on port port c.args.courses.now _ y.go_on c.requires.can;
      index = part_on port port _ _ c.args.ground.now c.args.courses.now _ part.First c.args.read.now.select c.args.read.now.index y.makes.adds.extends y.go_on c.requires.can c.in_ok-drive_part.ensures.part;
      has = y.has;
    }

pub returns-clause-serves : goal.returns-clause-serves
returns-clause-serves c =
    let y = c.in_ok-take_results.ensures in
    serves_later [] [] (c.args.read.now.index ∷ []) [] _ _ _ c.in_ok-drive_part.ensures.drives.serves (serves_made _ _ y.makes y.from.reads.late)

pub returns-clause-ready : goal.returns-clause-ready
returns-clause-ready c = λ by base ready nodes.
    let from = courses_numbers c.args.ground.now c.args.courses.now in
    let index = c.args.read.now.index in
    let value = c.args.read.now.value in
    let drives = c.in_ok-drive_part.ensures.drives in
    let first = late_ready by base from index _ _ ready drives in
    let given = given_ready by base (index.number ∷ []) _ _ value.number drives.serves.adds.extends nodes.0 first.nets_are in
    let y = c.in_ok-take_results.ensures in
    let later = y.makes.adds.extends in
    let then = from_ready by base (value.number ∷ from) _ _ _ (given, ready_on by base _ _ from drives.serves.adds.extends ready) y.from in
    record {
      came = came_later by base c.args.out.now c.drive_part.new.out c.take_results.new.out later first.came then.came;
      wires = ((ready_on by base _ _ (index.number ∷ []) later first.nets_are).0, tt);
      rows = then.nets_are;
    }
