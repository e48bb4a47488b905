use Rattle.std.proofs.Common.{◌≡◌, ℕ, ◌<◌, ◌≤◌, ◌∷◌, length, Some}
use Rattle.std.specs.Prelude.{slice_get}
use Rattle.ap_net.specs.Making.{Makes}
use Rattle.ap_stage.specs.declared.node.Course.{Course}
use Rattle.ap_stage.specs.Courses.{GoesOn, HasResult, IsCourse, courses_numbers}
use Rattle.ap_stage.specs.Reads.{AreFrom}
use Rattle.ap_stage.proofs.node.take_results.Given as goal

-- those so far have their results, and the others are as they were
abbrev pub invariant-loop-course : goal.invariant-loop-course
invariant-loop-course l = record {
  courses : (k : ℕ) (x : Course) → slice_get l.courses k ≡ Some x → IsCourse l.out l.ground x;
  long : length l.courses ≡ length l.initial.courses;
  done : (k : ℕ) (one other : Course) → k < l.course-index → slice_get l.initial.courses k ≡ Some one → slice_get l.courses k ≡ Some other → GoesOn l.port one other;
  has : (k : ℕ) (x : Course) → k < l.course-index → slice_get l.courses k ≡ Some x → HasResult l.port l.y x;
  rest : (k : ℕ) → l.course-index ≤ k → slice_get l.courses k ≡ slice_get l.initial.courses k;
  from : AreFrom (l.y.number ∷ courses_numbers l.ground l.initial.courses) l.fn.out l.out (l.y.number ∷ courses_numbers l.ground l.courses);
  makes : Makes l.fn.out l.out;
}
