use Rattle.std.proofs.Common.{◌∙◌}
use Rattle.ap_comb.proofs.KindValues.{shift_value}
use Rattle.ap_comb.proofs.shift.ShiftUnitKind.value.Goals as goal

pub returns : goal.returns
returns c = c.binary.ensures.value ∙ shift_value c.args.w c.args.op c.args.a c.args.b c.operation.result c.operation.ensures
