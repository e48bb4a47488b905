use Rattle.std.proofs.Common.{arith}
use Rattle.ap_ports.proofs.Sets.{only_one}
use Rattle.ap_ports.proofs.ways.single.Goals as goal

pub returns : goal.returns
returns c = only_one c.args.node (omega arith)
