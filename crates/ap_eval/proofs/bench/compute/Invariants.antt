use Rattle.std.proofs.Common.{◌≡◌, length, drop}
use Rattle.ap_eval.specs.Ops.{computed, load_of}
use Rattle.ap_eval.proofs.bench.compute.Given as goal

abbrev pub invariant-loop-op : goal.invariant-loop-op
invariant-loop-op l = record {
  long : length l.values ≡ length l.initial.values;
  same : computed (load_of l.memories) (drop l.op-index l.ops) l.values ≡ computed (load_of l.memories) l.ops l.initial.values;
}
