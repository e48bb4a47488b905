use Rattle.std.proofs.Common.{◌≡◌, ◌++◌, map, take}
use Rattle.ap_net.specs.declared.net.Net.{Net}
use Rattle.ap_net.specs.Modules.{wire_net}
use Rattle.ap_flat.specs.Opening.{net_in}
use Rattle.ap_flat.proofs.opening.put_wires.Given as goal

abbrev pub invariant-loop-wire : goal.invariant-loop-wire
invariant-loop-wire l = l.nets.items ≡ l.fn.nets.items ++ map (λ (x : Net). net_in l.place.top l.place.part (wire_net x)) (take l.wire-index l.wires)
