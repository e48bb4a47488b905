use Rattle.std.proofs.Common.{◌≡◌, map}
use Rattle.std.specs.List.{range_with_len}
use Rattle.ap_lead.specs.Writes.{file_write}
use Rattle.ap_lead.proofs.writes.file_writes.Given as goal

abbrev pub invariant-loop-port : goal.invariant-loop-port
invariant-loop-port l = l.writes ≡ map (file_write l.groups l.file) (range_with_len 0 l.port)
