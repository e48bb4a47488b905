use Rattle.std.specs.Prelude.{slice_index}
use Rattle.ap_eval.specs.Ops.{memories_after}
use Rattle.ap_eval.proofs.Writing.{Writes}
use Rattle.ap_eval.proofs.bench.write_memories.Given as goal

abbrev pub invariant-loop-number : goal.invariant-loop-number
invariant-loop-number l = Writes (λ n. slice_index l.values (slice_index l.roots n)) l.first l.number l.port l.initial.memories l.memories (memories_after (λ n. slice_index l.values (slice_index l.roots n)) l.first l.initial.memories)
