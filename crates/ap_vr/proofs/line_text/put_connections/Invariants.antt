use Rattle.std.proofs.Common.{◌≡◌, ◌++◌, take}
use Rattle.std.specs.List.{flat_map}
use Rattle.std.specs.String.{string_bytes}
use Rattle.ap_vr.specs.LineTexts.{joined_text}
use Rattle.ap_vr.proofs.line_text.put_connections.Given as goal

abbrev pub invariant-loop-connection : goal.invariant-loop-connection
invariant-loop-connection l = string_bytes l.out ≡ string_bytes l.fn.out ++ flat_map joined_text (take l.connection-index l.connections)
