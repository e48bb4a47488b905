use Rattle.ap_bank.specs.PortStages.{AreWriteStages}
use Rattle.ap_bank.proofs.stages.write_stages.Given as goal

abbrev pub invariant-loop-number : goal.invariant-loop-number
invariant-loop-number l = AreWriteStages l.design l.file l.number l.stages
