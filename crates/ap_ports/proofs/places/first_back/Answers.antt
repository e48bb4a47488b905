use Rattle.std.proofs.Common.{arith}
use Rattle.ap_ports.proofs.LinePlaces.{back_first, back_none_more, none_back}
use Rattle.ap_ports.proofs.places.first_back.Goals as goal

pub returns-then-micros-place : goal.returns-then-micros-place
returns-then-micros-place c = back_first c.args.micros.now c.loop-place.place _ _ (omega arith) (omega arith) c.loop-place.invariant c.if-micros-place.true

pub loop-place-preserved : goal.loop-place-preserved
loop-place-preserved c = back_none_more c.args.micros.now c.loop-place.place _ _ (omega arith) (omega arith) c.loop-place.invariant c.if-micros-place.false

pub returns : goal.returns
returns c = none_back c.args.micros.now c.loop-place.place (omega arith) c.loop-place.invariant
