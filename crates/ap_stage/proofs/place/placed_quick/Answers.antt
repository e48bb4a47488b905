use Rattle.std.proofs.Common.{refl}
use Rattle.ap_stage.proofs.place.placed_quick.Goals as goal

pub place-requires-clause-widths : goal.place-requires-clause-widths
place-requires-clause-widths c = rw (c.requires.same, c.requires.unit) refl

pub place-requires-clause-nets : goal.place-requires-clause-nets
place-requires-clause-nets c = (c.requires.sel, (c.requires.a, (c.requires.b, tt)))
