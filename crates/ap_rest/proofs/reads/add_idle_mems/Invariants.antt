use Rattle.std.proofs.Common.{◌≡◌, ◌++◌, drop}
use Rattle.ap_rest.specs.Reads.{idle_of_mems}
use Rattle.ap_rest.proofs.reads.add_idle_mems.Given as goal

-- those so far, and those of the memories that are left
abbrev pub invariant-loop-mem : goal.invariant-loop-mem
invariant-loop-mem l = l.nets ++ idle_of_mems l.design l.mem (drop l.mem l.mems) ≡ l.fn.nets ++ idle_of_mems l.design 0 l.mems
