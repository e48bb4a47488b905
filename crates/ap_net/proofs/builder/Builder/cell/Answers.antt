use Rattle.ap_net.proofs.Wired.{IsWired-assign}
use Rattle.ap_net.proofs.Connected.{IsConnected-assign}
use Rattle.ap_net.proofs.LateSteps.{Drives-cell, Always-cell}
use Rattle.ap_net.proofs.builder.Builder.cell.Goals as goal

pub invariant_of-self-2 : goal.invariant_of-self-2
invariant_of-self-2 c =
    let late = rw (← c.self.view_is) at c.requires.late in
    let fits = rw (← c.self.view_is) at c.requires.fits in
    rw c.in_ok-push.ensures.items (record {
      name = c.self.invariant.name;
      wired = IsWired-assign _ _ _ _ late.net fits late.free late.undriven c.self.invariant.wired;
      connected = IsConnected-assign _ _ _ _ late.unjoined c.self.invariant.connected;
      alone = c.self.invariant.alone;
      wires = c.self.invariant.wires;
    })

pub returns-clause-value : goal.returns-clause-value
returns-clause-value c = rw c.in_ok-push.ensures.items (Always-cell _ c.args.to c.args.cell)

pub returns-clause-drives : goal.returns-clause-drives
returns-clause-drives c = rw (c.in_ok-push.ensures.items, ← c.self.view_is) (Drives-cell _ c.args.to c.args.cell)
