use Rattle.std.proofs.Common.{◌≡◌, ◌+◌, length, drop}
use Rattle.ap_eval.specs.Ops.{put_from}
use Rattle.ap_eval.proofs.bench.put_from.Given as goal

abbrev pub invariant-loop-number : goal.invariant-loop-number
invariant-loop-number l = record {
  long : length l.values ≡ length l.initial.values;
  same : put_from (l.first + l.number) (drop l.number l.given) l.values ≡ put_from l.first l.given l.initial.values;
}
