use Rattle.ap_vr.specs.Scope.{module_named}
use Rattle.ap_vr.specs.Tables.{listed}
use Rattle.ap_vr.proofs.Scoping.{unknown_in_turn}
use Rattle.ap_vr.proofs.scope.unknown_in.Goals as goal

pub returns : goal.returns
returns c = rw (c.or-2.ensures, c.or.ensures) (unknown_in_turn (module_named (listed c.args.modules.now)) c.args.named.now c.in_ok-names.names _ _ _ c.in_ok-names.ensures
    (rw (c.assigns_from.ensures, c.as_slice-assigns.ensures) at c.unknown_assign-assign.ensures)
    (rw (c.nexts_from.ensures, c.as_slice-nexts.ensures) at c.unknown_next-next.ensures)
    (rw (c.instances_from-from.ensures, c.as_slice-instances.ensures) at c.unknown_instance-instance.ensures))
