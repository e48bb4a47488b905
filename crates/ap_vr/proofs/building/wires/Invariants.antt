use Rattle.std.proofs.Common.{◌≡◌, take}
use Rattle.ap_vr.proofs.building.wires.Given as goal

abbrev pub invariant-loop-wire : goal.invariant-loop-wire
invariant-loop-wire l = l.made.items ≡ take l.wire-index l.said
