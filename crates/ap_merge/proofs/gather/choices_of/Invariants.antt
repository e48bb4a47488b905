use Rattle.ap_merge.specs.Gathered.{AreGathered}
use Rattle.ap_merge.proofs.gather.choices_of.Given as goal

abbrev pub invariant-loop-place : goal.invariant-loop-place
invariant-loop-place l = AreGathered l.uses l.list l.place 0 l.choices
