use Rattle.ap_plain.specs.PlainViews.{sight_of}
use Rattle.ap_model.proofs.PlainWidths.{compute_fit}
use Rattle.ap_plain.proofs.values.computed.Goals as goal

pub unit_value-requires-clause-a : goal.unit_value-requires-clause-a
unit_value-requires-clause-a c =
    rw c.arg_value-first.ensures (compute_fit (sight_of c.args.view.now) c.args.locals.now c.args.unit c.args.op c.args.a c.args.b c.requires.sight c.requires.locals c.requires.typed).0

pub unit_value-requires-clause-b : goal.unit_value-requires-clause-b
unit_value-requires-clause-b c =
    rw c.arg_value-second.ensures (compute_fit (sight_of c.args.view.now) c.args.locals.now c.args.unit c.args.op c.args.a c.args.b c.requires.sight c.requires.locals c.requires.typed).1
