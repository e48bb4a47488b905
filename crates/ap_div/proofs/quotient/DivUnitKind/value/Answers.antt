use Rattle.ap_div.proofs.Divided.{quotient_called, remainder_called}
use Rattle.ap_div.proofs.quotient.DivUnitKind.value.Goals as goal

pub returns-then-op-eq0 : goal.returns-then-op-eq0
returns-then-op-eq0 c = quotient_called c.args.w c.args.op c.args.a c.args.b c.binary.result c.if-op-eq0.true c.binary.ensures.value

pub returns-else-op-eq0 : goal.returns-else-op-eq0
returns-else-op-eq0 c = remainder_called c.args.w c.args.op c.args.a c.args.b c.binary-else-op-eq0.result c.if-op-eq0.false c.requires.op c.binary-else-op-eq0.ensures.value
