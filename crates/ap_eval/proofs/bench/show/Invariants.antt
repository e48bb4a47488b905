use Rattle.std.proofs.Common.{◌≡◌, ℕ, ◌<◌, length, slice_index}
use Rattle.ap_eval.proofs.bench.show.Given as goal

abbrev pub invariant-loop-port : goal.invariant-loop-port
invariant-loop-port l = record {
  long : length l.shown ≡ length l.initial.shown;
  each : (n : ℕ) → n < l.port → slice_index l.shown n ≡ slice_index l.values (slice_index l.roots n);
}
