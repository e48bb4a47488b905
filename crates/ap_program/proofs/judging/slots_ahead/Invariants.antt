use Rattle.std.proofs.Common.{◌≡◌, ◌+◌, ◌≤◌, ◌<◌, ℕ, Some, drop, length}
use Rattle.std.specs.Prelude.{slice_get}
use Rattle.ap_program.specs.Programs.{is_slot_next}
use Rattle.ap_program.proofs.judging.slots_ahead.Given as goal

-- what is said of the lines from this one on
abbrev pub invariant-down : goal.invariant-down
invariant-down l = record {
  len : length l.ahead.items ≡ length l.lines;
  within : l.i ≤ length l.lines;
  here : l.next ≡ is_slot_next (drop l.i l.lines);
  each : (k : ℕ) → l.i ≤ k → k < length l.lines → slice_get l.ahead.items k ≡ Some (is_slot_next (drop (k + 1) l.lines));
}

abbrev pub decreases-down : goal.decreases-down
decreases-down l = l.i
