use Rattle.std.proofs.Common.{◌≡◌, ◌+◌, drop}
use Rattle.ap_eval.specs.Spots.{group_ports_count, port_count_of}
use Rattle.ap_eval.proofs.spot.port_count.Given as goal

abbrev pub invariant-loop-group : goal.invariant-loop-group
invariant-loop-group l = l.ports + group_ports_count (drop l.group-index l.outside.groups) ≡ port_count_of l.outside
