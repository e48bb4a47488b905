use Rattle.std.proofs.Common.{◌≡◌, ◌++◌, take}
use Rattle.ap_plain.proofs.run.append.Given as goal

abbrev pub invariant-loop-write : goal.invariant-loop-write
invariant-loop-write l = l.out ≡ l.initial.out ++ take l.write-index l.more
