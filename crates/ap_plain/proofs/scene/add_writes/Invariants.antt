use Rattle.std.proofs.Common.{◌≡◌, ◌++◌, map, take}
use Rattle.ap_model.specs.Cycles.{entry_of}
use Rattle.ap_plain.proofs.scene.add_writes.Given as goal

abbrev pub invariant-loop-write : goal.invariant-loop-write
invariant-loop-write l = l.out ≡ l.initial.out ++ map (entry_of l.stage l.number) (take l.write-index l.writes)
