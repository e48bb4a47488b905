use Rattle.std.proofs.Common.{◌≡◌, ℕ, ◌-◌, ◌/◌, ◌^◌, ◌<◌, ◌≤◌, ◌∷◌, length}
use Rattle.std.specs.Prelude.{All, slice_index}
use Rattle.ap_net.specs.Draft.{SettlesDraft}
use Rattle.ap_net.specs.Making.{Makes}
use Rattle.ap_net.specs.Ready.{numbers}
use Rattle.ap_comb.specs.Choices.{IsOfWidth, YieldsEach, values_of}
use Rattle.ap_comb.proofs.select.select.Given as goal

-- the number without its lowest bits chooses among the nets of the level
abbrev pub invariant-loop-sel : goal.invariant-loop-sel
invariant-loop-sel l = record {
  within : l.place ≤ l.sel.width;
  some : 1 ≤ length l.level.items;
  room : length l.level.items ≤ 2 ^ (l.sel.width - l.place);
  nets : All (IsOfWidth l.out.nets l.width) l.level.items;
  value : (read : ℕ → ℕ) → SettlesDraft l.out read → SettlesDraft l.fn.out read
      × (read l.sel.number < length l.choices → (read l.sel.number / 2 ^ l.place < length l.level.items) × (slice_index (values_of read l.level.items) (read l.sel.number / 2 ^ l.place) ≡ slice_index (values_of read l.choices) (read l.sel.number)));
  makes : Makes l.fn.out l.out;
  reads : YieldsEach (l.sel.number ∷ numbers l.choices) l.fn.out l.out l.level.items;
}

abbrev pub decreases-loop-sel : goal.decreases-loop-sel
decreases-loop-sel l = length l.level.items
