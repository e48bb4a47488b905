use Rattle.std.proofs.Common.{◌≡◌, ◌++◌, map, take}
use Rattle.ap_vr.specs.Nets.{wire_form}
use Rattle.ap_vr.proofs.nets.push_wires.Given as goal

abbrev pub invariant-loop-wire : goal.invariant-loop-wire
invariant-loop-wire l = l.forms ≡ l.fn.forms ++ map wire_form (take l.wire-index l.wires)
