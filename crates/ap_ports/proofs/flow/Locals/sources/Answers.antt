use Rattle.ap_desc.specs.Chains.{operands_of}
use Rattle.ap_ports.proofs.Sources.{sources_have}
use Rattle.ap_ports.proofs.flow.Locals.sources.Goals as goal

pub returns : goal.returns
returns c =
    sources_have c.args.self.now c.args.micro.now.stage c.operands-a.result.0 c.operands-a.result.1 c.operands-a.result.2 (operands_of c.args.micro.now.act) c.nodes_at.result c.nodes_at-2.result c.nodes_at-3.result
    c.operands-a.ensures c.nodes_at.ensures c.nodes_at-2.ensures c.nodes_at-3.ensures
