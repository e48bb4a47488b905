use Rattle.std.proofs.Common.{ap, sym}
use Rattle.ap_vr.specs.Scope.{connects_to, is_among}
use Rattle.ap_vr.specs.Tables.{listed}
use Rattle.ap_vr.proofs.Scoping.{found_none, found_some}
use Rattle.ap_vr.proofs.scope.knows_instance.Goals as goal

pub returns-in-None : goal.returns-in-None
returns-in-None c =
    sym (ap (connects_to (is_among c.args.names.now) c.args.instance.now)
    (found_none (listed c.args.modules.now) c.as_str.result.now c.args.instance.now.module c.module_named.result c.module_named.ensures c.as_str.ensures c.in-None.is))

pub returns-in-Some : goal.returns-in-Some
returns-in-Some c =
    rw (c.both.ensures, c.connects-joined.ensures, c.knows_nets.ensures, c.as_slice-connections.ensures, c.as_slice.ensures)
    (sym (ap (connects_to (is_among c.args.names.now) c.args.instance.now)
    (found_some (listed c.args.modules.now) c.as_str.result.now c.args.instance.now.module c.module_named.result c.in-Some.module c.module_named.ensures c.as_str.ensures c.in-Some.is)))
