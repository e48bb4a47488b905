use Rattle.std.proofs.Common.{refl}
use Rattle.circuit_tests.proofs.counter.circuit.Goals as goal

pub returns : goal.returns
returns c = rw (
  c.in_ok-next.ensures.ok,
  c.in_ok-cell-3.ensures.ok,
  c.in_ok-cell-2.ensures.ok,
  c.in_ok-cell.ensures.ok,
  c.in_ok-after.ensures.ok,
  c.in_ok-after.ensures.wire,
  c.in_ok-one.ensures.ok,
  c.in_ok-one.ensures.wire,
  c.in_ok-pc.ensures.ok,
  c.in_ok-pc.ensures.wire,
  c.in_ok-kill.ensures.ok,
  c.in_ok-kill.ensures.wire,
  c.in_ok-stall.ensures.ok,
  c.in_ok-stall.ensures.wire,
  c.in_ok-input-2.ensures.ok,
  c.in_ok-input.ensures.ok,
  c.in_ok-iaddr.ensures.ok,
  c.in_ok-iaddr.ensures.wire,
  c.in_ok-out.ensures,
) refl
