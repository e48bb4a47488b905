use Rattle.std.proofs.Common.{◌≡◌, ◌+◌, ◌++◌, drop}
use Rattle.ap_dist.specs.Places.{lines_of_group}
use Rattle.ap_asm.specs.Layouts.{placed_from}
use Rattle.ap_asm.proofs.placing.put_group.Given as goal

-- the words so far, and those that are left
abbrev pub invariant-loop-i : goal.invariant-loop-i
invariant-loop-i l = l.placed.items ++ placed_from l.outs (l.start + 1 + l.i) (drop (l.i + 1) l.words) (drop l.i l.group.in_slots) ≡ l.fn.placed.items ++ placed_from l.outs l.start l.words (lines_of_group l.group)
