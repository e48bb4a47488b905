use Rattle.std.proofs.Common.{subst, sym}
use Rattle.ap_net.proofs.Drafts.{Adds-refl}
use Rattle.ap_act.specs.Acting.{CanAct}
use Rattle.ap_gen.proofs.ActTop.{are_free, fires_can_act, has_ports, taken_late, taken_unshown, valid_can_act}
use Rattle.ap_gen.proofs.Growing.{late_adds}
use Rattle.ap_gen.proofs.act.act_top.Goals as goal

pub write_all-requires-clause-ports : goal.write_all-requires-clause-ports
write_all-requires-clause-ports c =
    has_ports c.args.design.now c.args.tables.now c.args.parts.now.modules.items c.args.parts.now.units c.args.parts.now.kinds c.args.start.now c.args.made.now c.args.out.now c.requires.clean c.requires.tables c.requires.parts c.requires.rests

pub write_all-requires-clause-free : goal.write_all-requires-clause-free
write_all-requires-clause-free c =
    are_free c.args.design.now c.args.tables.now c.args.parts.now.modules.items c.args.parts.now.units c.args.parts.now.kinds c.args.start.now c.args.made.now c.args.out.now c.requires.clean c.requires.tables c.requires.parts c.requires.rests

pub write_all-requires-clause-can : goal.write_all-requires-clause-can
write_all-requires-clause-can c =
    subst (λ bits. CanAct c.args.design.now c.args.out.now bits c.as_slice-stages.result.now) (sym c.as_slice.ensures)
    (subst (CanAct c.args.design.now c.args.out.now c.args.start.now.work.nets.fires) (sym c.as_slice-stages.ensures.value)
    (fires_can_act c.args.design.now c.args.tables.now c.args.parts.now.modules.items c.args.parts.now.units c.args.parts.now.kinds c.args.start.now c.args.made.now c.args.out.now c.requires.clean c.requires.tables c.requires.parts c.requires.rests
    c.args.out.now (Adds-refl c.args.out.now)))

pub transfer_taken-requires-clause-can : goal.transfer_taken-requires-clause-can
transfer_taken-requires-clause-can c =
    let drives = c.in_ok-write_all.ensures.drives in
    subst (λ bits. CanAct c.args.design.now c.write_all.new.out bits c.as_slice-stages.result.now) (sym c.as_slice-2.ensures)
    (subst (CanAct c.args.design.now c.write_all.new.out c.args.start.now.work.nets.valid) (sym c.as_slice-stages.ensures.value)
    (valid_can_act c.args.design.now c.args.tables.now c.args.parts.now.modules.items c.args.parts.now.units c.args.parts.now.kinds c.args.start.now c.args.made.now c.args.out.now c.requires.clean c.requires.tables c.requires.parts c.requires.rests
    c.write_all.new.out (late_adds drives)))

pub transfer_taken-requires-clause-late : goal.transfer_taken-requires-clause-late
transfer_taken-requires-clause-late c =
    c.in_ok-write_all.ensures.drives.late c.args.start.now.work.taken
    (taken_unshown c.args.design.now c.args.tables.now c.args.parts.now.modules.items c.args.parts.now.units c.args.parts.now.kinds c.args.start.now c.args.made.now c.args.out.now c.requires.clean c.requires.tables c.requires.parts c.requires.rests)
    (taken_late c.args.design.now c.args.tables.now c.args.parts.now.modules.items c.args.parts.now.units c.args.parts.now.kinds c.args.start.now c.args.made.now c.args.out.now c.requires.clean c.requires.tables c.requires.parts c.requires.rests)
