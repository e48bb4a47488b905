use Rattle.std.proofs.Common.{◌≡◌, [], map, take}
use Rattle.ap_vr.specs.Built.{register_name}
use Rattle.ap_vr.specs.Tables.{with_names}
use Rattle.ap_vr.proofs.building.registers.Given as goal

abbrev pub invariant-loop-next : goal.invariant-loop-next
invariant-loop-next l = l.names ≡ with_names [] (map register_name (take l.next-index l.nexts))
