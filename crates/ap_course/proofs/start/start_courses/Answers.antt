use Rattle.std.proofs.Common.{◌+◌, List, sym, subst}
use Rattle.ap_net.specs.Ready.{numbers}
use Rattle.ap_stage.specs.declared.node.Course.{Course}
use Rattle.ap_stage.proofs.Lined.{ground_on}
use Rattle.ap_course.specs.Starts.{sources}
use Rattle.ap_course.proofs.Gathering.{AreUnderWay, conds_on, low_on, one_more, slots_on}
use Rattle.ap_course.proofs.start.start_courses.Goals as goal

pub start_nth-requires-clause-ground : goal.start_nth-requires-clause-ground
start_nth-requires-clause-ground c = ground_on _ _ c.args.ground.now c.loop-number.invariant.makes c.requires.ground

pub start_nth-requires-clause-conds : goal.start_nth-requires-clause-conds
start_nth-requires-clause-conds c = conds_on c.args.design.now _ _ c.args.conds.now c.loop-number.invariant.makes c.requires.conds

pub start_nth-requires-clause-slots : goal.start_nth-requires-clause-slots
start_nth-requires-clause-slots c = slots_on _ _ c.args.table.now.widths c.args.slots.now c.loop-number.invariant.makes c.requires.slots

pub start_nth-requires-clause-low : goal.start_nth-requires-clause-low
start_nth-requires-clause-low c = low_on c.args.out.now c.loop-number.out (sources c.args.ground.now (numbers c.args.slots.now)) c.loop-number.invariant.makes c.requires.low

pub loop-number-preserved : goal.loop-number-preserved
loop-number-preserved c =
    let y = c.in_ok-course.ensures in
    subst (λ (items : List Course). AreUnderWay c.args.design.now c.args.stage c.args.ground.now c.args.table.now.homes c.args.slots.now c.args.conds.now (c.loop-number.number + 1) c.args.out.now c.start_nth.new.out items) (sym c.in_ok-push.ensures.items)
    (one_more c.args.design.now c.args.stage c.args.ground.now c.args.table.now.homes c.args.slots.now c.args.conds.now c.loop-number.number c.args.out.now c.loop-number.out c.start_nth.new.out c.loop-number.courses.items c.in_ok-course.course
    c.loop-number.invariant y.started y.reads y.makes)
