use Rattle.std.proofs.Common.{arith}
use Rattle.ap_dist.proofs.Built.{early_gaps}
use Rattle.ap_dist.proofs.distance.reach.Goals as goal

pub returns-then-older-most : goal.returns-then-older-most
returns-then-older-most c =
    let early = early_gaps c.args.design.now c.args.younger.now c.args.word c.args.older c.args.most c.requires.younger c.requires.low c.if-older-most.true in
    omega arith
