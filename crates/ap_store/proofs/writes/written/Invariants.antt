use Rattle.std.proofs.Common.{◌≡◌, ℕ, ◌<◌, length, get_or}
use Rattle.std.specs.Prelude.{◌==◌, if◌then◌else◌, All}
use Rattle.ap_net.specs.Draft.{SettlesDraft}
use Rattle.ap_net.specs.Making.{Makes}
use Rattle.ap_comb.specs.Choices.{IsOfWidth, values_of}
use Rattle.ap_store.proofs.writes.written.Given as goal

-- the cells so far have the value where their line is 1
abbrev pub invariant-loop-index : goal.invariant-loop-index
invariant-loop-index l = record {
  count : length l.made.items ≡ l.index;
  nets : All (IsOfWidth l.out.nets l.width) l.made.items;
  value : (read : ℕ → ℕ) → SettlesDraft l.out read
      → SettlesDraft l.initial.out read × ((j : ℕ) → j < l.index → get_or (values_of read l.made.items) j 0 ≡ (if get_or (values_of read l.lines.items) j 0 == 1 then read l.port.value.number else get_or (values_of read l.cells) j 0));
  makes : Makes l.initial.out l.out;
}
