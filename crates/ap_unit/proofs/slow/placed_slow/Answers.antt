use Rattle.std.proofs.Common.{refl}
use Rattle.ap_unit.proofs.slow.placed_slow.Goals as goal

pub place-requires-clause-widths : goal.place-requires-clause-widths
place-requires-clause-widths c = rw (c.requires.inputs.operands.same, c.requires.inputs.go_bit, c.requires.inputs.adv_bit, c.requires.unit) refl

pub place-requires-clause-nets : goal.place-requires-clause-nets
place-requires-clause-nets c = (c.requires.inputs.sel, (c.requires.inputs.operands.first, (c.requires.inputs.operands.second, (c.requires.inputs.go, (c.requires.inputs.adv, tt)))))
