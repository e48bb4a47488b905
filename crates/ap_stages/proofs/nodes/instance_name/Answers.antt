use Rattle.ap_stages.proofs.Names.{unit_net_name}
use Rattle.ap_stages.proofs.nodes.instance_name.Goals as goal

pub returns-clause-is_name : goal.returns-clause-is_name
returns-clause-is_name c = unit_net_name c.args.unit.now.name c.as_str.ensures.is_name
