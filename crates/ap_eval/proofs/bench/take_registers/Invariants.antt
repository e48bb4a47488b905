use Rattle.std.proofs.Common.{◌≡◌, length, map, take}
use Rattle.std.specs.Prelude.{slice_index}
use Rattle.ap_net.specs.declared.net.Next.{Next}
use Rattle.ap_eval.proofs.bench.take_registers.Given as goal

abbrev pub invariant-loop-number : goal.invariant-loop-number
invariant-loop-number l = record {
  long : length l.taken ≡ length l.nexts;
  same : take l.number l.taken ≡ map (λ (x : Next). slice_index l.values (slice_index l.roots x.from.number)) (take l.number l.nexts);
}
