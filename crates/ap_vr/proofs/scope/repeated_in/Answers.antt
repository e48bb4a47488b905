use Rattle.ap_vr.proofs.Scoping.{repeats_in_turn}
use Rattle.ap_vr.proofs.scope.repeated_in.Goals as goal

pub returns : goal.returns
returns c = rw (c.or-3.ensures, c.or-2.ensures, c.or.ensures) (repeats_in_turn c.args.named.now _ _ _ _ _ _ _
    (rw (c.in_ok-names.ensures, c.ports_from.ensures, c.as_slice-ports.ensures) at c.in_ok-port.ensures.first)
    (rw (c.in_ok-names.ensures, c.as_slice-ports.ensures) at c.in_ok-port.ensures.table)
    (rw (c.wires_from.ensures, c.as_slice-wires.ensures) at c.in_ok-wire.ensures.first)
    (rw c.as_slice-wires.ensures at c.in_ok-wire.ensures.table)
    (rw (c.regs_from.ensures, c.as_slice-regs.ensures) at c.in_ok-reg.ensures.first)
    (rw c.as_slice-regs.ensures at c.in_ok-reg.ensures.table)
    (rw (c.instances_from.ensures, c.as_slice-instances.ensures) at c.in_ok-instance.ensures.first))
