use Rattle.std.proofs.Common.{◌-◌, arith}
use Rattle.ap_flat.proofs.Steps.{ends_with_last}
use Rattle.ap_flat.proofs.order.Search.last.Goals as goal

pub returns-clause-some : goal.returns-clause-some
returns-clause-some c = ends_with_last c.args.self.now.path.items (c.len-count.result - 1) c.index.result.now (omega arith) c.index.ensures
