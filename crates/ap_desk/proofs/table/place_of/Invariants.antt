use Rattle.std.proofs.Common.{◌≡◌, ℕ, ◌+◌, drop}
use Rattle.std.specs.FinMap.Entries.{find}
use Rattle.std.specs.Ordering.{nat_cmp}
use Rattle.std.specs.Cmp.Lexicographic.{slice_cmp}
use Rattle.ap_desk.specs.Places.{IsPlace, pairs_of}
use Rattle.ap_desk.proofs.table.place_of.Given as goal

-- a first place in the rest is one in the whole, and a name that is not in the rest is not in the whole
abbrev pub invariant-loop-i : goal.invariant-loop-i
invariant-loop-i l = record {
  places : (j : ℕ) → IsPlace (pairs_of (drop l.i l.files)) l.name j → IsPlace (pairs_of l.files) l.name (l.i + j);
  found : find (slice_cmp nat_cmp) l.name (pairs_of (drop l.i l.files)) ≡ find (slice_cmp nat_cmp) l.name (pairs_of l.files);
}
