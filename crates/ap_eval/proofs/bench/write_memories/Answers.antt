use Rattle.std.proofs.Common.{ℕ, arith}
use Rattle.std.specs.Prelude.{slice_index}
use Rattle.ap_eval.specs.Ops.{memories_after}
use Rattle.ap_eval.proofs.Writing.{writes_more}
use Rattle.ap_eval.proofs.bench.write_memories.Goals as goal

pub loop-number-preserved : goal.loop-number-preserved
loop-number-preserved c =
    let read : ℕ → ℕ = λ n. slice_index c.args.values.now (slice_index c.args.roots.now n) in
    writes_more read c.args.first c.loop-number.number c.loop-number.port c.args.memories.now c.loop-number.memories (memories_after read c.args.first c.args.memories.now) c.write_memory.new.memory c.index-memories-number.result
    c.loop-number.auto.number (omega arith) c.write_memory.ensures c.loop-number.invariant
