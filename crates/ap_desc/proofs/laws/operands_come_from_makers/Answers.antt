use Rattle.ap_desc.proofs.Comings.{reaches_behind, behind_reaches, wired_behind, behind_wired, local_maker}
use Rattle.ap_desc.proofs.laws.operands_come_from_makers.Goals as goal

pub returns-clause-reaches : goal.returns-clause-reaches
returns-clause-reaches c instr stage a source = (reaches_behind instr stage source a, behind_reaches instr stage source a)

pub returns-clause-wired : goal.returns-clause-wired
returns-clause-wired c instr stage a source = (wired_behind instr stage source a, behind_wired instr stage source a)

pub returns-clause-maker : goal.returns-clause-maker
returns-clause-maker c = local_maker
