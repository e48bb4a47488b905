use Rattle.ap_net.proofs.Wired.{IsWired-next}
use Rattle.ap_net.proofs.LateSteps.{StayLate-next}
use Rattle.ap_net.proofs.builder.Builder.next.Goals as goal

pub invariant_of-self-2 : goal.invariant_of-self-2
invariant_of-self-2 c =
    let fits = rw (← c.self.view_is) at c.requires.fits in
    let unclocked = rw (← c.self.view_is) at c.requires.unclocked in
    rw c.in_ok-push.ensures.items (record {
      name = c.self.invariant.name;
      wired = IsWired-next _ _ _ _ fits unclocked c.self.invariant.wired;
      connected = c.self.invariant.connected;
      alone = c.self.invariant.alone;
      wires = c.self.invariant.wires;
    })

pub returns-clause-stay : goal.returns-clause-stay
returns-clause-stay c = rw (c.in_ok-push.ensures.items, ← c.self.view_is) (StayLate-next _ _)
