use Rattle.ap_vr.specs.Scope.{module_named}
use Rattle.ap_vr.specs.Tables.{listed}
use Rattle.ap_vr.proofs.InTurn.{misfit_in_turn}
use Rattle.ap_vr.proofs.widths.misfit_line.Goals as goal

pub returns : goal.returns
returns c = rw (c.or-2.ensures, c.or.ensures) (misfit_in_turn (module_named (listed c.args.modules.now)) c.args.named.now c.args.nets.now _ _ _ c.requires.nets
    (rw (c.assigns_from.ensures, c.as_slice-assigns.ensures) at c.misfit_assign-assign.ensures)
    (rw (c.nexts_from.ensures, c.as_slice-nexts.ensures) at c.misfit_next-next.ensures)
    (rw (c.instances_from-from.ensures, c.as_slice-instances.ensures) at c.misfit_instance-instance.ensures))
