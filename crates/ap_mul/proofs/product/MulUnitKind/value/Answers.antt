use Rattle.ap_mul.proofs.Multiplied.{low_called, high_called}
use Rattle.ap_mul.proofs.product.MulUnitKind.value.Goals as goal

pub returns-then-op-eq0 : goal.returns-then-op-eq0
returns-then-op-eq0 c = low_called c.args.w c.args.op c.args.a c.args.b c.binary.result c.if-op-eq0.true c.binary.ensures.value

pub returns-else-op-eq0 : goal.returns-else-op-eq0
returns-else-op-eq0 c = high_called c.args.w c.args.op c.args.a c.args.b c.binary-else-op-eq0.result c.if-op-eq0.false c.requires.op c.binary-else-op-eq0.ensures.value
