use Rattle.std.proofs.Common.{◌≡◌, length}
use Rattle.ap_vr.specs.Driving.{none_driven}
use Rattle.ap_vr.specs.Marks.{marks}
use Rattle.ap_vr.proofs.driving.unmarked.Given as goal

abbrev pub invariant-loop : goal.invariant-loop
invariant-loop l = (marks l.marked.items ≡ none_driven) × (length l.marked.items ≡ l.counter)
