use Rattle.std.proofs.Common.{◌≡◌, ◌++◌}
use Rattle.ap_program.proofs.FreeFields.{free_from}
use Rattle.ap_program.proofs.operands.free_places.Given as goal

-- those so far and those from the place on are all
abbrev pub invariant-loop-place : goal.invariant-loop-place
invariant-loop-place l = l.free ++ free_from l.fields l.fixed-items l.place ≡ free_from l.fields l.fixed-items 0
