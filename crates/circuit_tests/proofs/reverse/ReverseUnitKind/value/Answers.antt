use Rattle.std.proofs.Common.{◌∙◌}
use Rattle.circuit_tests.proofs.Reversed.{reversed}
use Rattle.circuit_tests.proofs.reverse.ReverseUnitKind.value.Goals as goal

pub returns : goal.returns
returns c = c.binary.ensures.value ∙ reversed c.args.w c.args._op c.args.a c.args.b c.requires.op
