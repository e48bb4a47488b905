use Rattle.std.proofs.Common.{◌≡◌, ◌++◌, drop}
use Rattle.ap_rest.specs.Reads.{idle_indices}
use Rattle.ap_rest.proofs.reads.add_idle_indices.Given as goal

-- those so far, and those of the ports that are left
abbrev pub invariant-loop-place : goal.invariant-loop-place
invariant-loop-place l = l.nets ++ idle_indices l.design l.file l.place (drop l.place l.indices) ≡ l.fn.nets ++ idle_indices l.design l.file 0 l.indices
