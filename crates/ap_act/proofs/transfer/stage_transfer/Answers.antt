use Rattle.std.proofs.Common.{◌≡◌, ◌≤◌, List, length, ap, sym, subst, ◌∙◌, arith}
use Rattle.ap_merge.specs.Selects.{GoesOver}
use Rattle.ap_stage.specs.declared.node.Course.{Course}
use Rattle.ap_effect.specs.declared.line.PortLine.{PortLine}
use Rattle.ap_effect.specs.Lines.{transfer_lines}
use Rattle.ap_commit.specs.Written.{CanTransfer}
use Rattle.ap_act.proofs.Lines.{few_transfers, instrs_few}
use Rattle.ap_act.proofs.Taken.{lines_there}
use Rattle.ap_act.proofs.transfer.stage_transfer.Goals as goal

pub overflow_cast-len : goal.overflow_cast-len
overflow_cast-len c =
    let design = c.args.design.now in
    let few = few_transfers design design.branch in
    let most = instrs_few design c.requires.clean in
    let same : c.len.result ≡ length (transfer_lines design design.branch) = c.len.ensures ∙ ap length c.in_ok-lines.ensures in
    omega (arith, few, most, same)

pub halves-requires : goal.halves-requires
halves-requires c = let some = lines_there c.in_ok-lines.lines (sym c.is_empty.ensures ∙ c.if-is_empty.false) in let same = c.len.ensures in omega (arith, some, same)

pub transfer-requires-clause-can : goal.transfer-requires-clause-can
transfer-requires-clause-can c =
    let design = c.args.design.now in
    let served = c.args.served.now in
    let lines : List PortLine = transfer_lines design design.branch in
    let some = lines_there c.in_ok-lines.lines (sym c.is_empty.ensures ∙ c.if-is_empty.false) in
    subst (λ (l : List Course). CanTransfer design served.ground l c.in_ok-select.select design.address) (sym c.deref.ensures.value) (record {
      some = subst (λ (l : List PortLine). 1 ≤ length l) c.in_ok-lines.ensures some;
      can = c.requires.can.transfers;
      fit = c.lines_fit_ports.ensures.transfers design served.ground served.courses.items design.branch c.requires.clean.sound c.requires.can.of;
      over = subst (GoesOver c.in_ok-select.select 0) (c.len.ensures ∙ ap length c.in_ok-lines.ensures) c.in_ok-select.ensures.over;
    })
