use Rattle.std.proofs.Common.{arith}
use Rattle.std.proofs.lemmas.Bool.{both_ways}
use Rattle.ap_ports.specs.Elsewhere.{IsAstray}
use Rattle.ap_ports.proofs.LinePlaces.{line_first, line_none_more, none_there}
use Rattle.ap_ports.proofs.places.first_astray.Goals as goal

pub returns-then-is_astray : goal.returns-then-is_astray
returns-then-is_astray c = line_first (IsAstray c.args.design.now) c.args.micros.now c.loop-place.place _ (omega arith) c.loop-place.invariant (c.is_astray.ensures.0 c.if-is_astray.true)

pub loop-place-preserved : goal.loop-place-preserved
loop-place-preserved c =
    line_none_more (IsAstray c.args.design.now) c.args.micros.now c.loop-place.place _ (omega arith) c.loop-place.invariant
    (λ h. both_ways c.is_astray.result c.if-is_astray.false (c.is_astray.ensures.1 h))

pub returns : goal.returns
returns c = none_there c.args.micros.now (IsAstray c.args.design.now) c.loop-place.place (omega arith) c.loop-place.invariant
