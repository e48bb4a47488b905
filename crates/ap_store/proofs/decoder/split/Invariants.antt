use Rattle.std.proofs.Common.{◌≡◌, ℕ, ◌*◌, length, take}
use Rattle.std.specs.Prelude.{All}
use Rattle.ap_net.specs.Draft.{SettlesDraft}
use Rattle.ap_net.specs.Making.{Makes}
use Rattle.ap_comb.specs.Choices.{IsOfWidth, values_of}
use Rattle.ap_store.specs.Writers.{split_lines}
use Rattle.ap_store.proofs.decoder.split.Given as goal

-- the lines so far are split
abbrev pub invariant-loop-line : goal.invariant-loop-line
invariant-loop-line l = record {
  count : length l.made.items ≡ 2 * l.line-index;
  nets : All (IsOfWidth l.out.nets 1) l.made.items;
  value : (read : ℕ → ℕ) → SettlesDraft l.out read → SettlesDraft l.initial.out read × (values_of read l.made.items ≡ split_lines (read l.bit.number) (values_of read (take l.line-index l.lines)));
  makes : Makes l.initial.out l.out;
}
