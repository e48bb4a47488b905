use Rattle.ap_stages.proofs.Owning.{NetsSoFar}
use Rattle.ap_stages.proofs.own.nets_of_stages.Given as goal

-- those of the stages so far
abbrev pub invariant-loop-place : goal.invariant-loop-place
invariant-loop-place l = NetsSoFar l.registers l.decoded l.place l.owns.items
