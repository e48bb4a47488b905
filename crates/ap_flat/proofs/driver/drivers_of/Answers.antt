use Rattle.std.proofs.Common.{arith}
use Rattle.ap_flat.proofs.Looking.{all_looked, look, skip}
use Rattle.ap_flat.proofs.driver.drivers_of.Goals as goal
use Rattle.ap_flat.proofs.driver.drivers_of.Goals.{in-Some, in_default}

pub loop-number-preserved : goal.loop-number-preserved
loop-number-preserved c = elim c.match-branch-4.branch [
  | in-Some w ↦ rw w.drivers-is (look c.args.opening.now c.args.ports.now c.loop-number.number w.in-Some.output c.loop-number.drivers.items c.requires.opened c.requires.ports c.requires.distinct c.loop-number.invariant (rw w.in-Some.is at c.in_ok-output.ensures.some))
  | in_default w ↦ rw w.drivers-is (skip c.args.opening.now c.args.ports.now c.loop-number.number c.loop-number.drivers.items c.loop-number.invariant (rw w.in_default.is at c.in_ok-output.ensures.none))
]

pub returns : goal.returns
returns c = all_looked c.args.opening.now c.args.ports.now c.loop-number.number c.loop-number.drivers.items (omega arith) c.loop-number.invariant
