use Rattle.std.proofs.Common.{◌≡◌, ◌++◌, drop}
use Rattle.ap_rest.specs.Reads.{idle_writes}
use Rattle.ap_rest.proofs.reads.idle_writes.Given as goal

-- those so far, and those of the memories that are left
abbrev pub invariant-loop-mem : goal.invariant-loop-mem
invariant-loop-mem l = l.nets ++ idle_writes l.design l.mem (drop l.mem l.mems) ≡ idle_writes l.design 0 l.mems
