use Rattle.std.proofs.Common.{Err, ap, ◌∙◌}
use Rattle.ap_desc.specs.declared.fault.Fault.TheVariants as f
use Rattle.ap_path.proofs.gather.order_of.Goals as goal

pub unreachable-requires : goal.unreachable-requires
unreachable-requires c = c.requires.faultless f.ChainLoop c.in-Err-Loop.field-0-0 (c.args.stage, c.chain_order.ensures.closed c.in-Err-Loop.field-0-0 (c.in-Err-Loop.is ∙ ap Err c.in-Err-Loop.field-0-is))
