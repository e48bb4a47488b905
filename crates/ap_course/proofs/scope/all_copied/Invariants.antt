use Rattle.std.proofs.Common.{◌≡◌, ◌++◌, drop}
use Rattle.ap_course.proofs.scope.all_copied.Given as goal

-- those so far, and those from here on
abbrev pub invariant-loop-field : goal.invariant-loop-field
invariant-loop-field l = l.fields ≡ l.made ++ drop l.field-index l.fields
