use Rattle.std.proofs.Common.{◌∙◌}
use Rattle.ap_comb.proofs.KindValues.{count_value}
use Rattle.ap_comb.proofs.count.CountUnitKind.value.Goals as goal

pub returns : goal.returns
returns c = c.unary.ensures.value ∙ count_value c.args.w c.args.op c.args.a c.args._b c.operation.result c.operation.ensures
