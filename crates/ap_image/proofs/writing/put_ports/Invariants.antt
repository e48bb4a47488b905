use Rattle.std.proofs.Common.{◌≡◌, ◌++◌, take}
use Rattle.std.specs.List.{flat_map}
use Rattle.ap_image.specs.TraceTexts.{after_space}
use Rattle.ap_image.proofs.writing.put_ports.Given as goal

abbrev pub invariant-loop-port : goal.invariant-loop-port
invariant-loop-port l = l.out.items ≡ l.fn.out.items ++ flat_map after_space (take l.port-index l.ports)
