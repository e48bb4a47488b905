use Rattle.std.proofs.Common.{◌≡◌, map}
use Rattle.std.specs.List.{range_with_len}
use Rattle.ap_lead.specs.Writes.{reg_write}
use Rattle.ap_lead.proofs.writes.reg_writes.Given as goal

abbrev pub invariant-loop-reg : goal.invariant-loop-reg
invariant-loop-reg l = l.writes ≡ map (reg_write l.groups) (range_with_len 0 l.reg)
