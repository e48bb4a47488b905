use Rattle.std.proofs.Common.{◌∙◌, sym}
use Rattle.ap_flat.specs.Ports.{IsGroup}
use Rattle.ap_flat.proofs.PortLists.{no_more_groups}
use Rattle.ap_flat.proofs.PortPieces.{each_push, one_group_more, some_left}
use Rattle.ap_flat.proofs.outside.groups_of.Goals as goal

pub returns-in_default-clause-none : goal.returns-in_default-clause-none
returns-in_default-clause-none c = λ gs each e.
    let none = rw c.in_default.is at c.in_ok-group.ensures.none in
    some_left c.groups.rest.now c.is_empty.result c.is_empty.ensures c.groups-test.true
    (no_more_groups c.groups.groups gs c.groups.rest.now c.groups.invariant.each each none (sym c.groups.invariant.split ∙ e))

pub groups-preserved : goal.groups-preserved
groups-preserved c =
    let some = rw c.in-Some.is at c.in_ok-group.ensures.some in
    record {
      split = rw c.in_ok-push.ensures.ok (one_group_more c.args.ports.now c.groups.rest.now c.groups.groups c.in-Some.group c.port_count.result c.groups.invariant.split some.1 c.port_count.ensures);
      each = rw c.in_ok-push.ensures.ok (each_push IsGroup c.groups.groups c.in-Some.group c.groups.invariant.each some.0);
    }
