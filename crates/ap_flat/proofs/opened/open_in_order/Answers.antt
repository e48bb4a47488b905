use Rattle.std.proofs.Common.{◌≡◌, Err, length}
use Rattle.std.proofs.lemmas.Result.{err_from_is_err_and}
use Rattle.ap_net.specs.Flat.{opened, top_ports}
use Rattle.ap_net.proofs.OpenNetlists.{netlists_open}
use Rattle.ap_flat.specs.Drivers.{AreDrivers, Reads}
use Rattle.ap_flat.specs.Dependence.{IsOrder}
use Rattle.ap_flat.specs.declared.order.OrderFault.TheVariants as fault
use Rattle.ap_flat.proofs.TopPorts.{has_ports}
use Rattle.ap_flat.proofs.Ordered.{drivers_within, looped_in, ordered_in, unlooped}
use Rattle.ap_flat.proofs.opened.open_in_order.Goals as goal

pub drivers_of-requires-clause-opened : goal.drivers_of-requires-clause-opened
drivers_of-requires-clause-opened c = rw c.in_ok-opening.ensures (netlists_open c.args.net.now c.rules.ensures)

pub drivers_of-requires-clause-ports : goal.drivers_of-requires-clause-ports
drivers_of-requires-clause-ports c = rw (c.ports_of-ports.ensures, c.in_ok-opening.ensures) (has_ports c.args.net.now c.rules.ensures).begins

pub drivers_of-requires-clause-distinct : goal.drivers_of-requires-clause-distinct
drivers_of-requires-clause-distinct c = rw c.ports_of-ports.ensures (has_ports c.args.net.now c.rules.ensures).distinct

pub order_of-requires : goal.order_of-requires
order_of-requires c =
    let are : AreDrivers (opened c.args.net.now) (top_ports c.args.net.now) c.in_ok-drivers.drivers.items = rw (c.in_ok-opening.ensures, c.ports_of-ports.ensures) at c.in_ok-drivers.ensures in
    rw c.deref.ensures.value (drivers_within c.args.net.now c.rules.ensures c.in_ok-drivers.drivers.items are)

pub returns-clause-drivers : goal.returns-clause-drivers
returns-clause-drivers c = rw (c.in_ok-opening.ensures, c.ports_of-ports.ensures) at c.in_ok-drivers.ensures

pub returns-clause-order : goal.returns-clause-order
returns-clause-order c =
    let are : AreDrivers (opened c.args.net.now) (top_ports c.args.net.now) c.in_ok-drivers.drivers.items = rw (c.in_ok-opening.ensures, c.ports_of-ports.ensures) at c.in_ok-drivers.ensures in
    let order : IsOrder (Reads c.in_ok-drivers.drivers.items) (length c.in_ok-drivers.drivers.items) c.in_ok-order.order.items = rw c.deref.ensures.value at c.in_ok-order.ensures.order in
    ordered_in c.args.net.now c.rules.ensures c.in_ok-drivers.drivers.items are c.in_ok-order.order.items order

pub returns-clause-no_loop : goal.returns-clause-no_loop
returns-clause-no_loop c =
    let are : AreDrivers (opened c.args.net.now) (top_ports c.args.net.now) c.in_ok-drivers.drivers.items = rw (c.in_ok-opening.ensures, c.ports_of-ports.ensures) at c.in_ok-drivers.ensures in
    let order : IsOrder (Reads c.in_ok-drivers.drivers.items) (length c.in_ok-drivers.drivers.items) c.in_ok-order.order.items = rw c.deref.ensures.value at c.in_ok-order.ensures.order in
    unlooped c.args.net.now c.rules.ensures c.in_ok-order.order.items (ordered_in c.args.net.now c.rules.ensures c.in_ok-drivers.drivers.items are c.in_ok-order.order.items order)

pub returns-in_err-order-clause-looped : goal.returns-in_err-order-clause-looped
returns-in_err-order-clause-looped c = λ e.
    let p = err_from_is_err_and c.from_residual-in_err-order.result c.from_residual-in_err-order.ensures.1 in
    let is = p.1 in
    let same = p.2 in
    let here : Err c.in_err-order.field-0.0 ≡ Err fault.Loop = cc in
    let are : AreDrivers (opened c.args.net.now) (top_ports c.args.net.now) c.in_ok-drivers.drivers.items = rw (c.in_ok-opening.ensures, c.ports_of-ports.ensures) at c.in_ok-drivers.ensures in
    looped_in c.args.net.now c.rules.ensures c.in_ok-drivers.drivers.items are (rw c.deref.ensures.value at (c.in_err-order.ensures.looped here))
