use Rattle.std.proofs.Common.{◌≡◌, ℕ, ◌-◌, ◌/◌, ◌^◌, ◌≤◌, length}
use Rattle.std.specs.Prelude.{All}
use Rattle.ap_net.specs.Draft.{SettlesDraft}
use Rattle.ap_net.specs.Making.{Makes}
use Rattle.ap_comb.specs.Choices.{IsOfWidth, values_of}
use Rattle.ap_store.specs.Writers.{one_hot}
use Rattle.ap_store.proofs.decoder.decoded.Given as goal

-- there is a line for each value of the upper bits
abbrev pub invariant-loop-place : goal.invariant-loop-place
invariant-loop-place l = record {
  within : l.place ≤ l.index.width;
  count : length l.lines.items ≡ 2 ^ (l.index.width - l.place);
  nets : All (IsOfWidth l.out.nets 1) l.lines.items;
  value : (read : ℕ → ℕ) → SettlesDraft l.out read → SettlesDraft l.fn.out read × (values_of read l.lines.items ≡ one_hot (read l.fn.on.number) (read l.index.number / 2 ^ l.place) (2 ^ (l.index.width - l.place)));
  makes : Makes l.fn.out l.out;
}

abbrev pub decreases-loop-place : goal.decreases-loop-place
decreases-loop-place l = l.place
