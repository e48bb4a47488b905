use Rattle.std.proofs.Common.{◌≡◌, ◌+◌, List, length, flat_map, drop, sym, ap, ◌∙◌, arith, Some, None}
use Rattle.std.specs.Prelude.{find, slice_get}
use Rattle.ap_desc.specs.declared.design.Instr.{Instr}
use Rattle.ap_desc.specs.declared.design.Micro.{Micro}
use Rattle.ap_flight.proofs.AllPlans.{cut_at, item_at}
use Rattle.ap_bank.specs.PortStages.{writes_cell}
use Rattle.ap_bank.proofs.StagesFound.{drop_all, find_back, find_front, none_left, stage_found, stage_none}
use Rattle.ap_bank.proofs.stages.port_stage.Goals as goal

pub returns-in-Some : goal.returns-in-Some
returns-in-Some c =
    let p = writes_cell c.args.file c.args.number in
    let i = c.loop-instr.instr-index in
    let instrs : List Instr = c.args.design.now.instrs in
    let items : List Instr = c.as_slice-instr-items.result.now in
    let x : Instr = c.instr-item.result in
    let at : slice_get instrs i ≡ Some x = item_at items instrs i x c.as_slice-instr-items.ensures (omega arith) c.instr-item.is in
    let rest : List Micro = flat_map (λ (q : Instr). q.micros) (drop (i + 1) instrs) in
    let m : Micro = c.in-Some.m in
    let here : find p x.micros ≡ Some m = rw c.as_slice.ensures at (sym c.first_write.ensures ∙ c.in-Some.is) in
    stage_found c.args.design.now c.args.file c.args.number m c.requires
    (c.loop-instr.invariant ∙ ap (λ l. find p (flat_map (λ (q : Instr). q.micros) l)) (cut_at instrs i x at) ∙ find_front p x.micros rest m here)

pub loop-instr-preserved : goal.loop-instr-preserved
loop-instr-preserved c =
    let p = writes_cell c.args.file c.args.number in
    let i = c.loop-instr.instr-index in
    let instrs : List Instr = c.args.design.now.instrs in
    let items : List Instr = c.as_slice-instr-items.result.now in
    let x : Instr = c.instr-item.result in
    let at : slice_get instrs i ≡ Some x = item_at items instrs i x c.as_slice-instr-items.ensures (omega arith) c.instr-item.is in
    let rest : List Micro = flat_map (λ (q : Instr). q.micros) (drop (i + 1) instrs) in
    let here : find p x.micros ≡ None = rw c.as_slice.ensures at (sym c.first_write.ensures ∙ none_left c.first_write.result (λ m e. c.in_default.not-Some m e)) in
    c.loop-instr.invariant ∙ ap (λ l. find p (flat_map (λ (q : Instr). q.micros) l)) (cut_at instrs i x at) ∙ find_back p x.micros rest here

pub returns : goal.returns
returns c =
    let p = writes_cell c.args.file c.args.number in
    let long : length c.as_slice-instr-items.result.now ≡ length c.args.design.now.instrs = ap length c.as_slice-instr-items.ensures in
    stage_none c.args.design.now c.args.file c.args.number (c.loop-instr.invariant ∙ ap (λ l. find p (flat_map (λ (q : Instr). q.micros) l)) (drop_all c.loop-instr.instr-index c.args.design.now.instrs (omega arith)))
