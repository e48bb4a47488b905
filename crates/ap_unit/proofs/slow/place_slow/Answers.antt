use Rattle.ap_unit.proofs.SlowUnits.{slow_busy, slow_y, part_sees}
use Rattle.ap_unit.proofs.slow.place_slow.Goals as goal

pub returns-clause-busy : goal.returns-clause-busy
returns-clause-busy c = λ by needs. rw c.in_ok-shown.ensures.outputs (slow_busy c.args.out.now c.args.name.now c.args.unit.now c.args.inputs _ c.requires.unit _ c.in_ok-shown.ensures.joins by needs)

pub returns-clause-y : goal.returns-clause-y
returns-clause-y c = λ by needs. rw c.in_ok-shown.ensures.outputs (slow_y c.args.out.now c.args.name.now c.args.unit.now c.args.inputs _ c.requires.unit _ c.in_ok-shown.ensures.joins by needs)

pub returns-clause-sees : goal.returns-clause-sees
returns-clause-sees c = rw c.in_ok-shown.ensures.outputs (record {
  holds = λ r s m found. part_sees c.args.out.now c.args.name.now c.args.unit.now c.args.inputs _ c.requires.unit m r.read _ (c.in_ok-shown.ensures.part.holds r s m found);
})
