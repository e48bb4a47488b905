use Rattle.std.proofs.Common.{◌∙◌}
use Rattle.ap_vr.specs.Nets.{number_of}
use Rattle.ap_vr.specs.Scope.{module_named}
use Rattle.ap_vr.specs.Tables.{listed}
use Rattle.ap_vr.proofs.InTurn.{all_in_turn, wrong_in_turn}
use Rattle.ap_vr.proofs.Marks.{numbered_still}
use Rattle.ap_vr.proofs.driving.drive_all.Goals as goal

pub drive_nexts-next-requires-clause-numbered : goal.drive_nexts-next-requires-clause-numbered
drive_nexts-next-requires-clause-numbered c = numbered_still c.args.nets.now c.args.marked.now.items _ c.requires.numbered c.drive_assigns-assign.ensures.length

pub drive_instances-instance-requires-clause-numbered : goal.drive_instances-instance-requires-clause-numbered
drive_instances-instance-requires-clause-numbered c = numbered_still c.args.nets.now c.args.marked.now.items _ c.requires.numbered (c.drive_nexts-next.ensures.length ∙ c.drive_assigns-assign.ensures.length)

pub returns-clause-wrong : goal.returns-clause-wrong
returns-clause-wrong c = rw (c.or-2.ensures, c.or.ensures) (wrong_in_turn (module_named (listed c.args.modules.now)) (number_of c.args.nets.now.names) c.args.nets.now.forms c.args.named.now _ _ _ _ _ _ c.requires.none
    (rw (c.assigns_from.ensures, c.as_slice-assigns.ensures) at c.drive_assigns-assign.ensures.first)
    (rw c.as_slice-assigns.ensures at c.drive_assigns-assign.ensures.driven)
    (rw (c.nexts_from.ensures, c.as_slice-nexts.ensures) at c.drive_nexts-next.ensures.first)
    (rw c.as_slice-nexts.ensures at c.drive_nexts-next.ensures.driven)
    (rw (c.instances_from-from.ensures, c.as_slice-instances.ensures) at c.drive_instances-instance.ensures.first))

pub returns-clause-driven : goal.returns-clause-driven
returns-clause-driven c = all_in_turn (module_named (listed c.args.modules.now)) (number_of c.args.nets.now.names) c.args.named.now _ _ _ _ c.requires.none
    (rw c.as_slice-assigns.ensures at c.drive_assigns-assign.ensures.driven)
    (rw c.as_slice-nexts.ensures at c.drive_nexts-next.ensures.driven)
    (rw c.as_slice-instances.ensures at c.drive_instances-instance.ensures.driven)

pub returns-clause-length : goal.returns-clause-length
returns-clause-length c = c.drive_instances-instance.ensures.length ∙ c.drive_nexts-next.ensures.length ∙ c.drive_assigns-assign.ensures.length
