use Rattle.std.proofs.Common.{◌∙◌}
use Rattle.serve_tests.proofs.TestValues.{first_of_two, second_of_two}
use Rattle.serve_tests.proofs.kinds.LessAndSumUnitKind.value.Goals as goal

pub returns-then-op-eq0 : goal.returns-then-op-eq0
returns-then-op-eq0 c = c.binary.ensures.value ∙ first_of_two c.args.w c.args.op c.args.a c.args.b c.if-op-eq0.true

pub returns-else-op-eq0 : goal.returns-else-op-eq0
returns-else-op-eq0 c = c.binary-else-op-eq0.ensures.value ∙ second_of_two c.args.w c.args.op c.args.a c.args.b c.requires.op c.if-op-eq0.false
