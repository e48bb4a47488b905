use Rattle.std.proofs.Common.{◌≡◌, ◌<◌, length, get_or, refl, sym, ap, subst, ◌∙◌, arith, ⊎_elim}
use Rattle.std.specs.Prelude.{slice_get}
use Rattle.std.proofs.lemmas.Option.{same_Some, slice_get-get_or, slice_get_within}
use Rattle.ap_net.proofs.Laws.{IsNet-Makes, Makes-refl, Makes-trans}
use Rattle.ap_stage.specs.Courses.{GoesOn, HasResult, IsCourse, IsResultWide, IsUnserved}
use Rattle.ap_stage.proofs.Filled.{above, below, set_cases, set_long, set_other}
use Rattle.ap_stage.proofs.Coursed.{from_at}
use Rattle.ap_stage.proofs.Followed.{from_later, from_same}
use Rattle.ap_stage.proofs.Lined.{ground_on}
use Rattle.ap_stage.proofs.Listed.{each_at, each_by_place}
use Rattle.ap_stage.proofs.Users.{course_on, go_by_place}
use Rattle.ap_stage.proofs.Shallow.{shallow_on}
use Rattle.ap_stage.proofs.node.take_results.Goals as goal

pub loop-course-init : goal.loop-course-init
loop-course-init c = record {
  courses = λ k x at. each_at (IsCourse c.args.out.now c.args.ground.now) c.args.courses.now k x c.requires.courses at;
  long = refl;
  done = λ k one other low p q. absurd (omega arith);
  has = λ k x low at. absurd (omega arith);
  rest = λ k low. refl;
  from = from_same _ _;
  makes = Makes-refl _;
}

pub take_result-requires-clause-fresh : goal.take_result-requires-clause-fresh
take_result-requires-clause-fresh c = c.loop-course.invariant.makes.fresh c.requires.fresh

pub take_result-requires-clause-ground : goal.take_result-requires-clause-ground
take_result-requires-clause-ground c = ground_on _ _ c.args.ground.now c.loop-course.invariant.makes c.requires.ground

pub take_result-requires-clause-y : goal.take_result-requires-clause-y
take_result-requires-clause-y c = IsNet-Makes _ _ c.args.y c.loop-course.invariant.makes c.requires.y

pub take_result-requires-clause-course : goal.take_result-requires-clause-course
take_result-requires-clause-course c =
    let inside : c.loop-course.course-index < length c.loop-course.courses = omega arith in
    c.loop-course.invariant.courses c.loop-course.course-index _ (slice_get-get_or c.loop-course.courses c.loop-course.course-index c.course-item.result inside)

pub take_result-requires-clause-unserved : goal.take_result-requires-clause-unserved
take_result-requires-clause-unserved c =
    let inside : c.loop-course.course-index < length c.loop-course.courses = omega arith in
    let at = slice_get-get_or c.loop-course.courses c.loop-course.course-index c.course-item.result inside in
    each_at (IsUnserved c.args.port) c.args.courses.now c.loop-course.course-index _ c.requires.unserved (sym (c.loop-course.invariant.rest c.loop-course.course-index (omega arith)) ∙ at)

pub take_result-requires-clause-wide : goal.take_result-requires-clause-wide
take_result-requires-clause-wide c =
    let inside : c.loop-course.course-index < length c.loop-course.courses = omega arith in
    let at = slice_get-get_or c.loop-course.courses c.loop-course.course-index c.course-item.result inside in
    each_at (IsResultWide c.args.y.width c.args.port) c.args.courses.now c.loop-course.course-index _ c.requires.wide (sym (c.loop-course.invariant.rest c.loop-course.course-index (omega arith)) ∙ at)

pub take_result-requires-clause-low : goal.take_result-requires-clause-low
take_result-requires-clause-low c = shallow_on _ _ 0 c.args.y.number c.loop-course.invariant.makes.adds.extends c.requires.low

pub loop-course-preserved : goal.loop-course-preserved
loop-course-preserved c =
    let h = c.loop-course.invariant in
    let y = c.in_ok-take_result.ensures in
    let i = c.loop-course.course-index in
    let xs = c.loop-course.courses in
    let new = c.take_result.new.course in
    let port = c.args.port in
    let inside : i < length xs = omega arith in
    let at = slice_get-get_or xs i c.course-item.result inside in
    record {
      courses = λ k x there. ⊎_elim (λ same. subst (IsCourse c.take_result.new.out c.args.ground.now) same.1 y.course) (λ other. course_on _ _ c.args.ground.now x y.makes.adds (h.courses k x other.1)) (set_cases xs i k new x inside there);
      long = set_long xs i new ∙ h.long;
      done = λ k one other low p q. ⊎_elim
          (λ same.
          let before : get_or xs i c.course-item.result ≡ one = same_Some _ one (sym at ∙ h.rest i (omega arith) ∙ ap (slice_get c.args.courses.now) (sym same.0) ∙ p) in
          subst (GoesOn port one) same.1 (subst (λ z. GoesOn port z new) before y.goes_on))
          (λ other_place. let ne = other_place.0 in h.done k one other (below i k low ne) p other_place.1) (set_cases xs i k new other inside q);
      has = λ k x low there. ⊎_elim (λ same. subst (HasResult port c.args.y) same.1 y.has) (λ other. h.has k x (below i k low other.0) other.1) (set_cases xs i k new x inside there);
      rest = λ k low. set_other xs i k new (λ e. above i k low e) ∙ h.rest k (omega arith);
      from = from_later _ _ _ _ _ _ h.from (from_at c.args.ground.now xs i _ new c.args.y _ _ at y.from);
      makes = Makes-trans _ _ _ h.makes y.makes;
    }

pub returns-clause-courses : goal.returns-clause-courses
returns-clause-courses c = each_by_place (IsCourse c.loop-course.out c.args.ground.now) c.loop-course.courses c.loop-course.invariant.courses

pub returns-clause-go_on : goal.returns-clause-go_on
returns-clause-go_on c =
    let h = c.loop-course.invariant in
    go_by_place c.args.port c.args.courses.now c.loop-course.courses h.long (λ k one other p q.
    let inside = slice_get_within c.args.courses.now k one p in
    h.done k one other (omega arith) p q)

pub returns-clause-has : goal.returns-clause-has
returns-clause-has c =
    let h = c.loop-course.invariant in
    each_by_place (HasResult c.args.port c.args.y) c.loop-course.courses (λ k x at.
    let inside = slice_get_within c.loop-course.courses k x at in
    let long = h.long in
    h.has k x (omega arith) at)

pub returns-clause-from : goal.returns-clause-from
returns-clause-from c = let h = c.loop-course.invariant.from in record { reads = h.reads; results = h.results.1 }
