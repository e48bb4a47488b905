use Rattle.std.proofs.Common.{ℕ, ◌<◌, ◌≤◌, ◌^◌, length}
use Rattle.ap_asm.specs.Behind.{AreBehindFrom}
use Rattle.ap_asm.proofs.placing.least_place.Given as goal

-- the least place behind the words that were looked at
abbrev pub invariant-loop-from : goal.invariant-loop-from
invariant-loop-from l = record {
  low : l.first ≤ l.place;
  high : l.place < 2 ^ 22;
  within : l.from ≤ length l.placed;
  behind : (place : ℕ) → l.place ≤ place → AreBehindFrom l.from l.design l.drain l.words l.transfers l.placed place;
  least : (place : ℕ) → l.first ≤ place → AreBehindFrom l.from l.design l.drain l.words l.transfers l.placed place → l.place ≤ place;
}

abbrev pub decreases-loop-from : goal.decreases-loop-from
decreases-loop-from l = l.from
