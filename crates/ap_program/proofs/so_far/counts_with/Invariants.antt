use Rattle.std.proofs.Common.{◌≡◌, ◌++◌, drop, map}
use Rattle.std.specs.Prelude.{zip}
use Rattle.ap_program.specs.SoFar.{count_with}
use Rattle.ap_program.proofs.so_far.counts_with.Given as goal

-- those so far and those of the memories that are left are all
abbrev pub invariant-loop-i : goal.invariant-loop-i
invariant-loop-i l = l.counts ++ map (count_with l.name l.count) (zip (drop l.i l.mem-items) (drop l.i l.words)) ≡ map (count_with l.name l.count) (zip l.mem-items l.words)
