use Rattle.std.proofs.Common.{◌≡◌, ◌+◌, ◌*◌, ◌++◌, drop}
use Rattle.ap_eval.specs.Spots.{mem_spots}
use Rattle.ap_eval.proofs.spot.put_mem_spots.Given as goal

abbrev pub invariant-loop : goal.invariant-loop
invariant-loop l = record {
  at : l.port ≡ l.start + 5 * l.index;
  same : l.spots.items ++ mem_spots l.port (drop l.index l.mems) ≡ l.initial.spots.items ++ mem_spots l.start l.mems;
}
