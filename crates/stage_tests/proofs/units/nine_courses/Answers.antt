use Rattle.std.proofs.Common.{List, [], ◌∷◌, length, sym, ap, subst, ◌∙◌}
use Rattle.std.specs.List.{AllByRecursion as Each}
use Rattle.ap_net.proofs.Laws.{Makes-refl, Makes-trans}
use Rattle.ap_stage.specs.declared.node.Course.{Course}
use Rattle.ap_stage.specs.Courses.{CanServe, FitsUnit, IsCourse, IsUnserved, users_of}
use Rattle.ap_stage.proofs.Listed.{each_both}
use Rattle.ap_stage.proofs.Users.{can_more, courses_on, users_both}
use Rattle.stage_tests.proofs.Doubling.{doubling_can, doubling_course, doubling_fits, doubling_unserved, one_more, word_on}
use Rattle.stage_tests.proofs.units.nine_courses.Goals as goal

pub loop-place-init : goal.loop-place-init
loop-place-init c =
    let none = c.new-courses.ensures.items in
    record {
      courses = subst (Each (IsCourse c.args.out.now c.args.ground.now)) (sym none) tt;
      unserved = subst (Each (IsUnserved 0)) (sym none) tt;
      fit = subst (λ (xs : List Course). Each (FitsUnit c.args.ground.now 4 8) (users_of 0 xs)) (sym none) tt;
      can = subst (λ (xs : List Course). CanServe (users_of 0 xs)) (sym none) tt;
      count = ap (λ (xs : List Course). length (users_of 0 xs)) none;
      makes = Makes-refl _;
    }

pub loop-place-preserved : goal.loop-place-preserved
loop-place-preserved c =
    let h = c.loop-place.invariant in
    let cond = c.in_ok-cond.ensures in
    let is = c.in_ok-course.ensures in
    let course = c.in_ok-course.course in
    let before = c.loop-place.courses.items in
    let ground = c.args.ground.now in
    let makes = Makes-trans _ _ _ h.makes cond.wiring.makes in
    let word = word_on _ _ c.args.word makes.adds c.requires.word in
    let pushed = c.in_ok-push.ensures.items in
    let out = c.constant.new.out in
    record {
      courses = subst (Each (IsCourse out ground)) (sym pushed)
          (each_both (IsCourse out ground) before (course ∷ []) (courses_on _ _ ground before cond.wiring.makes.adds h.courses) (doubling_course out c.args.word c.in_ok-cond.cond ground course word c.requires.ground cond.carries.net cond.carries.wide is, tt));
      unserved = subst (Each (IsUnserved 0)) (sym pushed) (each_both (IsUnserved 0) before (course ∷ []) h.unserved (doubling_unserved c.in_ok-cond.cond course is, tt));
      fit = subst (λ (xs : List Course). Each (FitsUnit ground 4 8) (users_of 0 xs)) (sym pushed)
          (subst (Each (FitsUnit ground 4 8)) (sym (users_both 0 before (course ∷ []))) (each_both (FitsUnit ground 4 8) (users_of 0 before) (users_of 0 (course ∷ [])) h.fit (doubling_fits c.in_ok-cond.cond ground course is)));
      can = subst (λ (xs : List Course). CanServe (users_of 0 xs)) (sym pushed) (can_more 0 before course h.can (doubling_can c.in_ok-cond.cond course is));
      count = ap (λ (xs : List Course). length (users_of 0 xs)) pushed ∙ one_more c.in_ok-cond.cond before course c.loop-place.place is h.count;
      makes = makes;
    }
