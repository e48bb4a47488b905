use Rattle.std.proofs.Common.{◌≡◌, filter_map}
use Rattle.std.specs.List.{range_with_len}
use Rattle.ap_course.specs.Homes.{homes_in, stored_at}
use Rattle.ap_course.proofs.slots.stored_of.Given as goal

-- those of the locals so far
abbrev pub invariant-loop-local : goal.invariant-loop-local
invariant-loop-local l = l.stored ≡ filter_map (stored_at (homes_in l.homes l.number) l.slots) (range_with_len 0 l.local)
