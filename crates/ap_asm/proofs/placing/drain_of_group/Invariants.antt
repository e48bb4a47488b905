use Rattle.std.proofs.Common.{◌≡◌, ◌+◌, drop, max}
use Rattle.ap_dist.specs.LeastStarts.{drain_of_line, drain_of_lines}
use Rattle.ap_asm.proofs.placing.drain_of_group.Given as goal

-- what the lines so far ask for, and what those that are left do
abbrev pub invariant-loop-i : goal.invariant-loop-i
invariant-loop-i l = max l.drain (drain_of_lines l.design (l.i + 1) (drop l.i l.group.in_slots)) ≡ max (drain_of_line l.design 0 l.group.first) (drain_of_lines l.design 1 l.group.in_slots)
