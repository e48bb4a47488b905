use Rattle.std.proofs.Common.{subst}
use Rattle.ap_asm.specs.Behind.{AreBehindFrom}
use Rattle.ap_asm.proofs.placing.start_of.Goals as goal

pub returns-clause-behind : goal.returns-clause-behind
returns-clause-behind c = λ place le. subst (λ b. AreBehindFrom 0 c.args.design.now c.args.layout.now.drain c.args.words.now b c.args.placed.now place) c.does_transfer-transfers.ensures (c.least_place.ensures.behind place le)
