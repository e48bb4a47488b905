use Rattle.std.proofs.Common.{◌≡◌, ◌*◌, ◌≤◌, ◌++◌, length, drop}
use Rattle.std.specs.List.{AllByRecursion as Each}
use Rattle.ap_net.specs.Outside.{mem_ports}
use Rattle.ap_flat.specs.Ports.{IsMem}
use Rattle.ap_flat.proofs.outside.mems_at.Given as goal

abbrev pub invariant-mems : goal.invariant-mems
invariant-mems l = record {
  within : 5 * length l.mems ≤ length l.ports;
  split : l.ports ≡ mem_ports l.mems ++ l.rest;
  after : l.rest ≡ drop (5 * length l.mems) l.ports;
  each : Each IsMem l.mems;
}

abbrev pub decreases-mems : goal.decreases-mems
decreases-mems l = length l.rest
