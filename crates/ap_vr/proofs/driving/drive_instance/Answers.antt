use Rattle.std.proofs.Common.{refl}
use Rattle.ap_vr.specs.Tables.{listed}
use Rattle.ap_vr.proofs.Scoping.{found_none, found_some}
use Rattle.ap_vr.proofs.driving.drive_instance.Goals as goal

pub returns-in-None-clause-right : goal.returns-in-None-clause-right
returns-in-None-clause-right c =
    rw (found_none (listed c.args.modules.now) c.as_str.result.now c.args.instance.now.module c.module_named.result c.module_named.ensures c.as_str.ensures c.in-None.is) refl

pub returns-in-None-clause-driven : goal.returns-in-None-clause-driven
returns-in-None-clause-driven c =
    rw (found_none (listed c.args.modules.now) c.as_str.result.now c.args.instance.now.module c.module_named.result c.module_named.ensures c.as_str.ensures c.in-None.is) refl

pub returns-in-Some-clause-right : goal.returns-in-Some-clause-right
returns-in-Some-clause-right c =
    rw (found_some (listed c.args.modules.now) c.as_str.result.now c.args.instance.now.module c.module_named.result c.in-Some.module c.module_named.ensures c.as_str.ensures c.in-Some.is)
    (rw (c.as_slice-connections.ensures, c.as_slice.ensures) at c.drive_ports.ensures.right)

pub returns-in-Some-clause-driven : goal.returns-in-Some-clause-driven
returns-in-Some-clause-driven c =
    rw (found_some (listed c.args.modules.now) c.as_str.result.now c.args.instance.now.module c.module_named.result c.in-Some.module c.module_named.ensures c.as_str.ensures c.in-Some.is)
    (rw (c.as_slice-connections.ensures, c.as_slice.ensures) at c.drive_ports.ensures.driven)
