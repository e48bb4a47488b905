use Rattle.std.proofs.Common.{◌<◌, length, take, refl, arith}
use Rattle.std.proofs.lemmas.Option.{slice_get_read}
use Rattle.ap_net.proofs.Laws.{Makes-refl, Makes-trans}
use Rattle.ap_stage.specs.Courses.{FitsPart, IsCourse}
use Rattle.ap_stage.proofs.Coursed.{among_at}
use Rattle.ap_stage.proofs.Lined.{ground_on}
use Rattle.ap_stage.proofs.Listed.{each_at}
use Rattle.ap_stage.proofs.Offered.{adds_more, adds_start}
use Rattle.ap_stage.proofs.Users.{course_on, users_at, users_back, users_next}
use Rattle.ap_stage.proofs.serve.offers_of.Goals as goal

pub loop-course-init : goal.loop-course-init
loop-course-init c = record { adds = adds_start _ _ _ _ _ _ c.new-offers.ensures; makes = Makes-refl _ }

pub add_offer-requires-clause-fresh : goal.add_offer-requires-clause-fresh
add_offer-requires-clause-fresh c = c.loop-course.invariant.makes.fresh c.requires.fresh

pub add_offer-requires-clause-ground : goal.add_offer-requires-clause-ground
add_offer-requires-clause-ground c = ground_on _ _ c.args.ground.now c.loop-course.invariant.makes c.requires.ground

pub add_offer-requires-clause-course : goal.add_offer-requires-clause-course
add_offer-requires-clause-course c =
    let inside : c.loop-course.course-index < length c.args.courses.now = omega arith in
    let at = slice_get_read c.args.courses.now (length c.args.courses.now) c.loop-course.course-index c.course-item.result refl inside c.course-item.is in
    course_on _ _ c.args.ground.now c.course-item.result c.loop-course.invariant.makes.adds (each_at (IsCourse c.args.out.now c.args.ground.now) c.args.courses.now c.loop-course.course-index c.course-item.result c.requires.courses at)

pub add_offer-requires-clause-fit : goal.add_offer-requires-clause-fit
add_offer-requires-clause-fit c =
    let inside : c.loop-course.course-index < length c.args.courses.now = omega arith in
    let at = slice_get_read c.args.courses.now (length c.args.courses.now) c.loop-course.course-index c.course-item.result refl inside c.course-item.is in
    users_at (FitsPart c.args.ground.now c.args.width c.args.part) c.args.port c.args.courses.now c.loop-course.course-index c.course-item.result at c.requires.fit

pub add_offer-requires-clause-can : goal.add_offer-requires-clause-can
add_offer-requires-clause-can c =
    let inside : c.loop-course.course-index < length c.args.courses.now = omega arith in
    let at = slice_get_read c.args.courses.now (length c.args.courses.now) c.loop-course.course-index c.course-item.result refl inside c.course-item.is in
    users_back c.args.port c.args.courses.now c.loop-course.course-index c.course-item.result at c.requires.can

pub loop-course-preserved : goal.loop-course-preserved
loop-course-preserved c =
    let h = c.loop-course.invariant in
    let y = c.in_ok-add_offer.ensures in
    let inside : c.loop-course.course-index < length c.args.courses.now = omega arith in
    let at = slice_get_read c.args.courses.now (length c.args.courses.now) c.loop-course.course-index c.course-item.result refl inside c.course-item.is in
    let next = users_next c.args.courses.now c.loop-course.course-index c.course-item.result at in
    rw next (record {
      adds = adds_more _ _ _ _ _ c.args.ground.now c.args.part c.args.width c.args.port (take c.loop-course.course-index c.args.courses.now) c.course-item.result _ _ _
          (among_at c.args.ground.now c.args.courses.now c.loop-course.course-index c.course-item.result at) h.adds y.adds;
      makes = Makes-trans _ _ _ h.makes y.makes;
    })
