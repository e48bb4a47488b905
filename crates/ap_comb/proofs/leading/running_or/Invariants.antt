use Rattle.std.proofs.Common.{◌≡◌, ℕ, ◌-◌, ◌≤◌, [], ◌∷◌}
use Rattle.ap_net.specs.Cells.{IsNet}
use Rattle.ap_net.specs.Draft.{SettlesDraft}
use Rattle.ap_net.specs.Making.{Makes}
use Rattle.ap_net.specs.Pending.{Yields}
use Rattle.ap_bits.specs.Operations.{zeros_above}
use Rattle.ap_comb.proofs.Runs.{IsRun}
use Rattle.ap_comb.proofs.leading.running_or.Given as goal

-- the ones reach so far down from the highest one
abbrev pub invariant-loop-reach : goal.invariant-loop-reach
invariant-loop-reach l = record {
  some : 1 ≤ l.reach;
  net : IsNet l.out.nets l.run;
  width : l.run.width ≡ l.x.width;
  value : (read : ℕ → ℕ) → SettlesDraft l.out read → SettlesDraft l.fn.out read × IsRun (l.x.width - zeros_above l.x.width (read l.x.number)) l.reach (read l.run.number);
  makes : Makes l.fn.out l.out;
  reads : Yields (l.x.number ∷ []) l.fn.out l.out l.run;
}

abbrev pub decreases-loop-reach : goal.decreases-loop-reach
decreases-loop-reach l = l.x.width - l.reach
