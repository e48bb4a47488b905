use Rattle.std.proofs.Common.{◌∙◌}
use Rattle.ap_comb.proofs.AluResults.{value_is}
use Rattle.ap_comb.proofs.alu.AluUnitKind.value.Goals as goal

pub returns : goal.returns
returns c = c.value.ensures ∙ value_is c.args.w c.args.op c.args.a c.args.b _ c.requires.op
