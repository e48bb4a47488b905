use Rattle.std.proofs.Common.{◌≡◌, length, take}
use Rattle.std.specs.List.{AllByRecursion as Each}
use Rattle.ap_net.specs.Outside.{input_ports}
use Rattle.ap_flat.specs.Ports.{IsInPort}
use Rattle.ap_flat.proofs.outside.in_ports.Given as goal

abbrev pub invariant-loop-port : goal.invariant-loop-port
invariant-loop-port l = record {
  long : length l.inputs ≡ l.port-index;
  same : take l.port-index l.ports ≡ input_ports l.inputs;
  each : Each IsInPort l.inputs;
}
