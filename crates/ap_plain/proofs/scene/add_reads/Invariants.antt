use Rattle.std.proofs.Common.{◌≡◌, ◌++◌, map, take}
use Rattle.ap_model.specs.Cycles.{sample_of}
use Rattle.ap_plain.proofs.scene.add_reads.Given as goal

abbrev pub invariant-loop-read : goal.invariant-loop-read
invariant-loop-read l = l.out ≡ l.initial.out ++ map (sample_of l.number) (take l.read-index l.reads)
