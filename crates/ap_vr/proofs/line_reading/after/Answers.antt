use Rattle.ap_vr.proofs.Afters.{rest_after}
use Rattle.ap_vr.proofs.line_reading.after.Goals as goal

pub returns : goal.returns
returns c = rest_after c.args.pieces.now c.args.place
