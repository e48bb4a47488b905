use Rattle.ap_vr.proofs.Scoping.{scope_in_turn}
use Rattle.ap_vr.proofs.scope.scope.Goals as goal

pub returns : goal.returns
returns c = scope_in_turn c.args.named.now _ _ _ _ _
    (rw (c.new-names.ensures, c.as_slice.ensures) at c.in_ok-add_ports.ensures.table)
    (rw c.as_slice-2.ensures at c.in_ok-add_declared.ensures.table)
    (rw c.as_slice-3.ensures at c.in_ok-add_declared-2.ensures.table)
    c.in_ok-add.ensures.table c.in_ok-add-2.ensures.table
