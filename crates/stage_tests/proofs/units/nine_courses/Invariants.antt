use Rattle.std.proofs.Common.{◌≡◌, length}
use Rattle.std.specs.List.{AllByRecursion as Each}
use Rattle.ap_net.specs.Making.{Makes}
use Rattle.ap_stage.specs.Courses.{CanServe, FitsUnit, IsCourse, IsUnserved, users_of}
use Rattle.stage_tests.proofs.units.nine_courses.Given as goal

abbrev pub invariant-loop-place : goal.invariant-loop-place
invariant-loop-place l = record {
  courses : Each (IsCourse l.out l.ground) l.courses.items;
  unserved : Each (IsUnserved 0) l.courses.items;
  fit : Each (FitsUnit l.ground 4 8) (users_of 0 l.courses.items);
  can : CanServe (users_of 0 l.courses.items);
  count : length (users_of 0 l.courses.items) ≡ l.place;
  makes : Makes l.fn.out l.out;
}
