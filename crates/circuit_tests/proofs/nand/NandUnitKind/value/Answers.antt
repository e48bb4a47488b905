use Rattle.std.proofs.Common.{◌∙◌, ap}
use Rattle.std.specs.Prelude.{bit_and, bit_xor}
use Rattle.ap_comb.proofs.KindValues.{any_width}
use Rattle.circuit_tests.proofs.NandValues.{nand_value}
use Rattle.circuit_tests.proofs.nand.NandUnitKind.value.Goals as goal

pub returns : goal.returns
returns c = ap (bit_xor (bit_and c.args.a c.args.b)) c.mask.ensures ∙ nand_value c.args.w c.args._op c.args.a c.args.b (any_width c.args.w c.requires.width).1 c.requires.op
