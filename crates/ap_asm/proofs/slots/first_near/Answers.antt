use Rattle.ap_asm.proofs.Nears.{none_at_all, none_more}
use Rattle.ap_asm.proofs.slots.first_near.Goals as goal

pub loop-younger-preserved : goal.loop-younger-preserved
loop-younger-preserved c = none_more c.args.design.now c.args.words.now c.loop-younger.younger c.if-is_near.ensures.far c.loop-younger.invariant

pub returns-clause-far : goal.returns-clause-far
returns-clause-far c = none_at_all c.args.design.now c.args.words.now c.loop-younger.younger c.loop-younger-test.false c.loop-younger.invariant
