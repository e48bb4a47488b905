use Rattle.std.proofs.Common.{ℕ, ◌+◌, ◌≤◌}
use Rattle.ap_asm.specs.Behind.{FirstBehindWord}
use Rattle.ap_asm.proofs.placing.after_word.Given as goal

-- the least place behind which the first words are far enough
abbrev pub invariant-loop-i : goal.invariant-loop-i
invariant-loop-i l = record {
  high : l.least ≤ l.at + l.design.stages;
  behind : (place : ℕ) → l.least ≤ place → FirstBehindWord l.i l.design l.older l.at l.words place;
  least : (place : ℕ) → FirstBehindWord l.i l.design l.older l.at l.words place → l.least ≤ place;
}
