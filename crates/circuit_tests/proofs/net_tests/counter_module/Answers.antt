use Rattle.std.proofs.Common.{◌≡◌, refl, subst, lit≤}
use Rattle.ap_net.specs.declared.net.ModuleNet.{ModuleNet}
use Rattle.ap_net.specs.declared.net.Role.TheVariants as role
use Rattle.ap_net.specs.Wiring.{reset_of}
use Rattle.ap_net.proofs.Lists.{some_same}
use Rattle.circuit_tests.proofs.net_tests.counter_module.Goals as goal
use Rattle.circuit_tests.proofs.Tested.{IsDriven-are_driven}

pub finish-requires-clause-driven : goal.finish-requires-clause-driven
finish-requires-clause-driven c =
    rw
    (c.in_ok-next.ensures.ok, c.in_ok-cell-7.ensures.ok, c.in_ok-cell-6.ensures.ok, c.in_ok-cell-5.ensures.ok, c.in_ok-cell-4.ensures.ok, c.in_ok-cell-3.ensures.ok, c.in_ok-cell-2.ensures.ok, c.in_ok-cell.ensures.ok, c.in_ok-iaddr.ensures.wire, c.in_ok-idata.ensures.wire, c.in_ok-stall.ensures.wire, c.in_ok-kill.ensures.wire, c.in_ok-enable.ensures.wire, c.in_ok-value.ensures.wire, c.in_ok-pc.ensures.wire, c.in_ok-one.ensures.wire, c.in_ok-after.ensures.wire, c.in_ok-after.ensures.ok, c.in_ok-one.ensures.ok, c.in_ok-pc.ensures.ok, c.in_ok-value.ensures.ok, c.in_ok-enable.ensures.ok, c.in_ok-kill.ensures.ok, c.in_ok-stall.ensures.ok, c.in_ok-_mwait.ensures.ok, c.in_ok-idata.ensures.ok, c.in_ok-iaddr.ensures.ok, c.in_ok-b.ensures)
    (IsDriven-are_driven _ _ _ refl)

pub next-requires-clause-fits : goal.next-requires-clause-fits
next-requires-clause-fits c =
    rw
    (c.in_ok-cell-7.ensures.ok, c.in_ok-cell-6.ensures.ok, c.in_ok-cell-5.ensures.ok, c.in_ok-cell-4.ensures.ok, c.in_ok-cell-3.ensures.ok, c.in_ok-cell-2.ensures.ok, c.in_ok-cell.ensures.ok, c.in_ok-pc.ensures.wire, c.in_ok-after.ensures.wire, c.in_ok-after.ensures.ok, c.in_ok-one.ensures.ok, c.in_ok-pc.ensures.ok, c.in_ok-value.ensures.ok, c.in_ok-enable.ensures.ok, c.in_ok-kill.ensures.ok, c.in_ok-stall.ensures.ok, c.in_ok-_mwait.ensures.ok, c.in_ok-idata.ensures.ok, c.in_ok-iaddr.ensures.ok, c.in_ok-b.ensures)
    (record {
      register = record { declared = refl; low = lit≤ tt; high = lit≤ tt };
      clocked = λ net at. subst (λ (x : ModuleNet). x.role ≡ role.Register (reset_of x.role)) (some_same at) refl;
      from = record { declared = refl; low = lit≤ tt; high = lit≤ tt };
      same = refl;
    })
