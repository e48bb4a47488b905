use Rattle.std.proofs.Common.{◌≡◌, ℕ, ◌/◌, ◌%◌, ◌<◌, ◌∷◌, length}
use Rattle.std.specs.Prelude.{All, slice_index}
use Rattle.ap_net.specs.Draft.{SettlesDraft}
use Rattle.ap_net.specs.Making.{Makes}
use Rattle.ap_net.specs.Ready.{numbers}
use Rattle.ap_comb.specs.Choices.{IsOfWidth, YieldsEach, values_of}
use Rattle.ap_comb.proofs.select.halved.Given as goal

abbrev pub invariant-loop-i : goal.invariant-loop-i
invariant-loop-i l = record {
  long : length l.made.items ≡ l.i;
  nets : All (IsOfWidth l.out.nets l.width) l.made.items;
  value : (read : ℕ → ℕ) → SettlesDraft l.out read → SettlesDraft l.fn.out read × ((j : ℕ) → j < length l.level → j / 2 < l.i → read l.bit.number ≡ j % 2 → slice_index (values_of read l.made.items) (j / 2) ≡ slice_index (values_of read l.level) j);
  makes : Makes l.fn.out l.out;
  reads : YieldsEach (l.bit.number ∷ numbers l.level) l.fn.out l.out l.made.items;
}
