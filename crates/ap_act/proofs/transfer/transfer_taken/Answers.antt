use Rattle.std.proofs.Common.{◌-◌}
use Rattle.ap_ctl.specs.Building.{IsBit}
use Rattle.ap_net.proofs.Lists.{All-at}
use Rattle.ap_act.proofs.Lines.{branch_within}
use Rattle.ap_act.proofs.Taken.{can_take, takes}
use Rattle.ap_act.proofs.Written.{stage_can}
use Rattle.ap_act.proofs.transfer.transfer_taken.Goals as goal

pub stage_transfer-requires-clause-can : goal.stage_transfer-requires-clause-can
stage_transfer-requires-clause-can c = stage_can c.args.design.now c.args.out.now c.args.valid.now c.args.stages.now c.args.design.now.branch c.stage_at-served.result.now c.requires.can (branch_within c.args.design.now c.requires.clean).0 c.stage_at-served.ensures

pub stage_transfer-requires-clause-valid : goal.stage_transfer-requires-clause-valid
stage_transfer-requires-clause-valid c = All-at (IsBit c.args.out.now.nets) c.args.valid.now (c.args.design.now.branch - 1) c.net_at-bit.result c.requires.can.are_bits c.net_at-bit.ensures

pub join-requires : goal.join-requires
join-requires c =
    let s = c.stage_at-served.result.now in
    can_take c.stage_transfer.new.out c.args.design.now s.ground s.courses.items c.net_at-bit.result c.args.taken c.in_ok-nets.nets (c.in_ok-nets.ensures.from.reads.late c.args.taken c.requires.late) c.requires.bit c.in_ok-nets.ensures.transferred

pub returns : goal.returns
returns c =
    takes c.args.design.now c.args.valid.now c.args.stages.now c.args.taken c.args.out.now c.stage_transfer.new.out c.join.new.out c.stage_at-served.result.now c.net_at-bit.result c.in_ok-nets.nets c.requires.fresh c.stage_at-served.ensures c.net_at-bit.ensures
    c.in_ok-nets.ensures.transferred c.in_ok-nets.ensures.from c.in_ok-nets.ensures.makes c.in_ok-join.ensures
