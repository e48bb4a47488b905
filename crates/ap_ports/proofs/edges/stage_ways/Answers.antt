use Rattle.std.proofs.Common.{arith}
use Rattle.ap_ports.proofs.Opened.{open_first, open_whole}
use Rattle.ap_ports.proofs.edges.stage_ways.Goals as goal

pub loop-number-init : goal.loop-number-init
loop-number-init c = open_first c.args.design.now c.args.stage c.new-ways.result c.new-ways.ensures

pub returns-clause-graph : goal.returns-clause-graph
returns-clause-graph c = (open_whole c.args.design.now c.requires c.args.stage c.loop-number.number c.loop-number.ways (omega arith) c.loop-number.invariant).0

pub returns-clause-unlooped : goal.returns-clause-unlooped
returns-clause-unlooped c = (open_whole c.args.design.now c.requires c.args.stage c.loop-number.number c.loop-number.ways (omega arith) c.loop-number.invariant).1
