use Rattle.std.proofs.Common.{◌∙◌, arith, sym}
use Rattle.ap_ports.proofs.Twice.{none_seen, seen_more, seen_none, seen_same, twice_here}
use Rattle.ap_ports.proofs.places.first_twice.Goals as goal
use Rattle.ap_ports.proofs.places.first_twice.Goals.{in-Some+else-used-port, in_default}

pub loop-place-init : goal.loop-place-init
loop-place-init c = seen_none c.args.micros.now

pub returns-then-used-port : goal.returns-then-used-port
returns-then-used-port c =
    twice_here c.args.micros.now c.loop-place.used c.loop-place.place _ c.requires c.loop-place.invariant (omega arith) c.in-Some.port (sym c.port_number.ensures.number ∙ c.in-Some.is) c.if-used-port.true

pub loop-place-preserved : goal.loop-place-preserved
loop-place-preserved c = elim c.match-port_number.branch [
  | in-Some+else-used-port w ↦
      rw w.used-is (seen_more c.args.micros.now c.loop-place.used c.loop-place.place _ c.requires c.loop-place.invariant (omega arith) w.in-Some.port (sym c.port_number.ensures.number ∙ w.in-Some.is) (omega (arith, w.in-Some.ensures.within)) w.if-used-port.false)
  | in_default w ↦
      rw w.used-is (seen_same c.args.micros.now c.loop-place.used c.loop-place.place _ c.requires c.loop-place.invariant (omega arith) (sym c.port_number.ensures.number ∙ w.in_default.is))
]

pub returns : goal.returns
returns c = none_seen c.args.micros.now c.loop-place.used c.loop-place.place (omega arith) c.loop-place.invariant
