use Rattle.std.proofs.Common.{List, length, sym, ap, subst, ◌∙◌}
use Rattle.ap_desc.proofs.OnePort.{clean_apart}
use Rattle.ap_pipe.specs.declared.table.StageSlots.{StageSlots}
use Rattle.ap_flight.specs.declared.entry.Leaving.{Leaving}
use Rattle.ap_flight.specs.declared.stage.Coming.{Coming}
use Rattle.ap_front.specs.Coming.{AreComings}
use Rattle.ap_front.proofs.Flying.{names_long}
use Rattle.ap_flow.specs.Left.{AreLeft, CanLeaveTo}
use Rattle.ap_flow.proofs.Coming.{can_drive}
use Rattle.ap_flow.proofs.Left.{can_leave}
use Rattle.ap_flow.proofs.flow.drive_flights.Goals as goal

pub all_leavings-requires : goal.all_leavings-requires
all_leavings-requires c =
    let design = c.args.design.now in
    let stages = c.args.stages.now in
    record {
      slots = ap length c.as_slice-table.ensures ∙ c.requires.slots.count;
      stages = c.requires.can.leaves.count;
      homes = subst (λ (l : List StageSlots). CanLeaveTo l stages) (sym c.as_slice-table.ensures) (can_leave design c.args.out.now c.args.slots.now stages (clean_apart design c.requires.clean) c.requires.slots c.requires.can.leaves);
    }

pub comings-requires : goal.comings-requires
comings-requires c =
    let design = c.args.design.now in
    ap length c.as_slice.ensures ∙ c.in_ok-locals.ensures.long ∙ ap length c.as_slice-table.ensures ∙ sym (names_long design c.args.out.now 1 c.args.slots.now.stages c.args.registers.now.stages c.requires.can.names.each)

pub drive_stages-requires : goal.drive_stages-requires
drive_stages-requires c =
    let stages = c.args.stages.now in
    let locals : List (List Leaving) = c.in_ok-locals.locals in
    let comings : List Coming = c.in_ok-comings.comings in
    let left : AreLeft c.args.slots.now.stages stages locals = subst (λ (l : List StageSlots). AreLeft l stages locals) c.as_slice-table.ensures c.in_ok-locals.ensures in
    let come = subst (λ (l : List (List Leaving)). AreComings c.args.registers.now c.args.ports.now.idata c.args.hold l comings) c.as_slice.ensures c.in_ok-comings.ensures in
    rw (c.as_slice-2.ensures, c.as_slice-table.ensures, c.as_slice-3.ensures)
    (record {
      fresh = c.requires.fresh;
      stages =
          can_drive c.args.design.now c.args.out.now c.args.slots.now c.args.registers.now c.args.ports.now c.args.control.now c.args.target stages c.rules.ensures c.requires.slots c.requires.can c.requires.clean c.args.hold c.requires.hold locals left comings come;
    })

pub returns : goal.returns
returns c =
    let stages = c.args.stages.now in
    let locals : List (List Leaving) = c.in_ok-locals.locals in
    let comings : List Coming = c.in_ok-comings.comings in
    let left : AreLeft c.args.slots.now.stages stages locals = subst (λ (l : List StageSlots). AreLeft l stages locals) c.as_slice-table.ensures c.in_ok-locals.ensures in
    let come = subst (λ (l : List (List Leaving)). AreComings c.args.registers.now c.args.ports.now.idata c.args.hold l comings) c.as_slice.ensures c.in_ok-comings.ensures in
    let drives = c.in_ok-drive_stages.ensures in
    record {
      locals = locals;
      left = left;
      come = come;
      can = can_drive c.args.design.now c.args.out.now c.args.slots.now c.args.registers.now c.args.ports.now c.args.control.now c.args.target stages c.rules.ensures c.requires.slots c.requires.can c.requires.clean c.args.hold c.requires.hold locals left comings come;
      drives = rw (c.as_slice-2.ensures, c.as_slice-table.ensures, c.as_slice-3.ensures) at drives;
    }
