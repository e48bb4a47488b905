use Rattle.std.proofs.Common.{◌≡◌, ℕ, [], ◌∷◌, ◌%◌, ◌^◌}
use Rattle.ap_net.specs.Cells.{IsNet}
use Rattle.ap_net.specs.Draft.{SettlesDraft}
use Rattle.ap_net.specs.Making.{Makes}
use Rattle.ap_net.specs.Pending.{Yields}
use Rattle.ap_comb.specs.Moves.{moved, inlet}
use Rattle.ap_comb.proofs.levels.shift_by_levels.Given as goal

-- after the levels below i the value is moved as far as the lowest i bits say
abbrev pub invariant-loop-i : goal.invariant-loop-i
invariant-loop-i l = record {
  net : IsNet l.out.nets l.shifted;
  width : l.shifted.width ≡ l.fn.x.width;
  value : (read : ℕ → ℕ) → SettlesDraft l.out read → SettlesDraft l.fn.out read × (read l.shifted.number ≡ moved read l.way l.fn.x.width (read l.fn.x.number) (read l.by.number % 2 ^ l.i));
  makes : Makes l.fn.out l.out;
  reads : Yields (l.fn.x.number ∷ (inlet l.way).number ∷ l.by.number ∷ []) l.fn.out l.out l.shifted;
}
