use Rattle.std.proofs.Common.{◌∙◌, None, arith, get_or, sym}
use Rattle.ap_ports.proofs.Elsewhere.{none_there, some_there, step_already, step_more, step_without}
use Rattle.ap_ports.proofs.first.note_stages.Goals as goal
use Rattle.ap_ports.proofs.first.note_stages.Goals.{in-Some+then-is_none, in-Some+else-is_none, in_default}

pub loop-micro-preserved : goal.loop-micro-preserved
loop-micro-preserved c = elim c.match-port_number.branch [
  | in-Some+then-is_none w ↦
      rw w.stages-is (step_more c.args.stages.now c.loop-micro.stages c.args.micros.now c.loop-micro.micro-index _ (omega arith) c.loop-micro.invariant w.in-Some.port
      (sym c.port_number.ensures.number ∙ w.in-Some.is) (omega (arith, w.in-Some.ensures.within, c.loop-micro.invariant.0)) (none_there (get_or c.loop-micro.stages w.in-Some.port None) w.is_none.result w.is_none.ensures w.if-is_none.true))
  | in-Some+else-is_none w ↦
      let (s, has) = some_there (get_or c.loop-micro.stages w.in-Some.port None) w.is_none.result w.is_none.ensures w.if-is_none.false in
      rw w.stages-is (step_already c.args.stages.now c.loop-micro.stages c.args.micros.now c.loop-micro.micro-index _ (omega arith) c.loop-micro.invariant w.in-Some.port s
      (sym c.port_number.ensures.number ∙ w.in-Some.is) has)
  | in_default w ↦
      rw w.stages-is (step_without c.args.stages.now c.loop-micro.stages c.args.micros.now c.loop-micro.micro-index _ (omega arith) c.loop-micro.invariant (sym c.port_number.ensures.number ∙ w.in_default.is))
]
