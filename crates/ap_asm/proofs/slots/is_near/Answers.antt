use Rattle.std.proofs.Common.{arith}
use Rattle.ap_asm.proofs.Nears.{far_more, far_none, near_here}
use Rattle.ap_asm.proofs.slots.is_near.Goals as goal

pub loop-older-init : goal.loop-older-init
loop-older-init c = far_none c.args.design.now c.args.words.now c.args.younger

pub loop-older-preserved : goal.loop-older-preserved
loop-older-preserved c = far_more c.args.design.now c.args.words.now c.args.younger c.loop-older.older c.loop-older-test.true (let e = c.dist-distance.ensures.value in let le = c.if-distance-apart.false in omega arith) c.loop-older.invariant

pub returns-then-distance-apart-clause-near : goal.returns-then-distance-apart-clause-near
returns-then-distance-apart-clause-near c =
    near_here c.args.design.now c.args.words.now c.args.younger c.loop-older.older c.loop-older-test.true c.requires.within (let e = c.dist-distance.ensures.value in let lt = c.if-distance-apart.true in omega arith)
