use Rattle.std.proofs.Common.{◌≡◌, length, drop}
use Rattle.ap_eval.specs.Ops.{give_all}
use Rattle.ap_eval.proofs.bench.give_registers.Given as goal

abbrev pub invariant-loop-number : goal.invariant-loop-number
invariant-loop-number l = record {
  long : length l.values ≡ length l.initial.values;
  same : give_all (drop l.number l.nexts) (drop l.number l.taken) l.values ≡ give_all l.nexts l.taken l.initial.values;
}
