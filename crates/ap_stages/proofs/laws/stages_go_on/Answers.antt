use Rattle.ap_stages.proofs.Onward.{others, shared_on}
use Rattle.ap_stages.proofs.laws.stages_go_on.Goals as goal

pub returns-clause-others : goal.returns-clause-others
returns-clause-others c = λ design cards a b modules nodes x s serves left h. others design cards a b modules nodes x s serves left h

pub returns-clause-shared : goal.returns-clause-shared
returns-clause-shared c = λ design shared a b adds h. shared_on design shared a b adds h
