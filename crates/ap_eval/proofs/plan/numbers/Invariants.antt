use Rattle.std.proofs.Common.{◌≡◌, ℕ, ◌<◌, length}
use Rattle.std.specs.Prelude.{slice_index}
use Rattle.ap_eval.proofs.plan.numbers.Given as goal

abbrev pub invariant-loop-net : goal.invariant-loop-net
invariant-loop-net l = record {
  long : length l.numbers.items ≡ l.net;
  each : (n : ℕ) → n < l.net → slice_index l.numbers.items n ≡ n;
}
