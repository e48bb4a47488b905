use Rattle.ap_merge.specs.Gathered.{AreGathered}
use Rattle.ap_merge.proofs.gather.add_choices.Given as goal

abbrev pub invariant-loop-operand : goal.invariant-loop-operand
invariant-loop-operand l = AreGathered l.uses l.ports l.place l.operand l.choices
