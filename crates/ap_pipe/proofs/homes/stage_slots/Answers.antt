use Rattle.std.proofs.Common.{◌∙◌, ap, arith, length}
use Rattle.ap_pipe.proofs.HomeLemmas.{few_locals, item_at, step_homes, step_widths}
use Rattle.ap_pipe.proofs.Ranked.{few_ranked}
use Rattle.ap_pipe.proofs.homes.stage_slots.Goals as goal

pub ranked-requires-clause-locals : goal.ranked-requires-clause-locals
ranked-requires-clause-locals c =
    few_locals c.args.design.now c.requires c.loop-number.number c.instr-item.result (item_at c.as_slice-instr-items.result.now c.args.design.now.instrs c.loop-number.number c.instr-item.result c.as_slice-instr-items.ensures (omega arith) c.instr-item.is)

pub add_homes-requires : goal.add_homes-requires
add_homes-requires c =
    let few = few_locals c.args.design.now c.requires c.loop-number.number c.instr-item.result (item_at c.as_slice-instr-items.result.now c.args.design.now.instrs c.loop-number.number c.instr-item.result c.as_slice-instr-items.ensures (omega arith) c.instr-item.is) in
    let ranks = few_ranked c.args.stage c.instr-item.result in
    let long = ap length (c.deref-in-loop-number.ensures.value ∙ c.in_ok-list.ensures) in
    omega arith

pub loop-number-preserved : goal.loop-number-preserved
loop-number-preserved c = (
  step_widths c.args.design.now c.args.stage c.loop-number.number c.instr-item.result c.as_slice-instr-items.result.now c.loop-number.widths c.as_slice.result.now _ c.deref.result.now c.in_ok-list.list.items c.as_slice-instr-items.ensures
      (omega arith) c.instr-item.is c.as_slice.ensures c.deref.ensures.value c.in_ok-list.ensures c.in_ok-widths.ensures (c.loop-number.invariant).0,
  step_homes c.args.design.now c.args.stage c.loop-number.number c.instr-item.result c.as_slice-instr-items.result.now c.loop-number.homes _ c.deref-in-loop-number.result.now c.in_ok-list.list.items c.as_slice-instr-items.ensures
      (omega arith) c.instr-item.is c.deref-in-loop-number.ensures.value c.in_ok-list.ensures c.in_ok-add_homes.ensures (c.loop-number.invariant).1,
)
