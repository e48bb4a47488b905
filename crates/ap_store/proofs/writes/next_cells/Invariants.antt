use Rattle.std.proofs.Common.{◌≡◌, ℕ, length, take, flat_map}
use Rattle.std.specs.Prelude.{All}
use Rattle.ap_net.specs.Draft.{SettlesDraft}
use Rattle.ap_net.specs.Making.{Makes}
use Rattle.ap_comb.specs.Choices.{IsOfWidth, values_of}
use Rattle.ap_store.specs.Cells.{after_writes, write_order}
use Rattle.ap_store.specs.Writers.{numbered_write}
use Rattle.ap_store.proofs.writes.next_cells.Given as goal

-- the writes of the ports so far are made
abbrev pub invariant-loop-port : goal.invariant-loop-port
invariant-loop-port l = record {
  count : length l.next.items ≡ length l.cells;
  nets : All (IsOfWidth l.out.nets l.width) l.next.items;
  value : (read : ℕ → ℕ) → SettlesDraft l.out read
      → SettlesDraft l.fn.out read × (values_of read l.next.items ≡ after_writes (values_of read l.cells) (flat_map (numbered_write read l.ports) (take l.port-index (write_order l.stages))));
  makes : Makes l.fn.out l.out;
}
