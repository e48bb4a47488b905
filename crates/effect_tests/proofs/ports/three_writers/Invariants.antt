use Rattle.std.proofs.Common.{◌≡◌, length, Some}
use Rattle.std.specs.List.{AllByRecursion as Each}
use Rattle.ap_net.specs.Making.{Makes}
use Rattle.ap_effect.specs.Writers.{IsWriter}
use Rattle.effect_tests.proofs.ports.three_writers.Given as goal

abbrev pub invariant-loop-place : goal.invariant-loop-place
invariant-loop-place l = record {
  writers : Each (IsWriter l.out.nets (Some 4) 8) l.writers.items;
  count : length l.writers.items ≡ l.place;
  makes : Makes l.fn.out l.out;
}
