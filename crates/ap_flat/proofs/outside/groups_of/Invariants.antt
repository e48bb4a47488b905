use Rattle.std.proofs.Common.{◌≡◌, ◌++◌, length}
use Rattle.std.specs.List.{AllByRecursion as Each}
use Rattle.ap_net.specs.Outside.{group_ports}
use Rattle.ap_flat.specs.Ports.{IsGroup}
use Rattle.ap_flat.proofs.outside.groups_of.Given as goal

abbrev pub invariant-groups : goal.invariant-groups
invariant-groups l = record {
  split : l.ports ≡ group_ports l.groups ++ l.rest;
  each : Each IsGroup l.groups;
}

abbrev pub decreases-groups : goal.decreases-groups
decreases-groups l = length l.rest
