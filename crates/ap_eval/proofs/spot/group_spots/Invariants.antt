use Rattle.std.proofs.Common.{◌≡◌, ◌+◌, ◌++◌, drop}
use Rattle.ap_eval.specs.Spots.{group_ports_count, group_spots}
use Rattle.ap_eval.proofs.spot.group_spots.Given as goal

abbrev pub invariant-loop-group : goal.invariant-loop-group
invariant-loop-group l = record {
  count : l.port + group_ports_count (drop l.group-index l.groups) ≡ l.start + group_ports_count l.groups;
  same : l.spots.items ++ group_spots l.port (drop l.group-index l.groups) ≡ group_spots l.start l.groups;
}
