use Rattle.std.proofs.Common.{◌+◌, ◌<◌, ◌^◌, ap, sym, ◌∙◌, arith}
use Rattle.ap_net.specs.Draft.{is_plain, wire_count}
use Rattle.ap_net.proofs.Drafts.{Adds-declare}
use Rattle.ap_net.proofs.Wired.{IsWired-declare, wire_count-push}
use Rattle.ap_net.proofs.Connected.{IsConnected-declare, CanFresh-declare, CanFresh-fresh, IsNew-taken}
use Rattle.ap_net.proofs.LateSteps.{IsLate-net, StayLate-net}
use Rattle.ap_net.proofs.builder.Builder.declare.Goals as goal

pub invariant_of-self-2 : goal.invariant_of-self-2
invariant_of-self-2 c =
    let new = rw (← c.self.view_is) at c.requires.name in
    rw c.in_ok-push.ensures.items (record {
      name = c.self.invariant.name;
      wired = IsWired-declare _ _ _ _ c.requires.is_name (IsNew-taken _ _ _ new) c.requires.low c.requires.high c.requires.reset c.self.invariant.wired;
      connected = IsConnected-declare _ _ _ _ new c.self.invariant.connected;
      alone = c.self.invariant.alone;
      wires = (λ i. c.self.invariant.wires i + c.wires_in.ensures i) ∙ sym (wire_count-push c.self.inside.nets.items _);
    })

pub returns-clause-adds : goal.returns-clause-adds
returns-clause-adds c = rw (c.in_ok-push.ensures.items, ← c.self.view_is) (Adds-declare _ _)

pub returns-clause-named : goal.returns-clause-named
returns-clause-named c = rw (c.in_ok-push.ensures.items, ← c.self.view_is) (CanFresh-declare _ _ _)

pub returns-clause-numbered : goal.returns-clause-numbered
returns-clause-numbered c =
    let small : wire_count c.self.inside.nets.items < 2 ^ 64 = let e = c.self.invariant.wires in omega arith in
    rw (c.in_ok-push.ensures.items, ← c.self.view_is) (λ named plain. CanFresh-fresh _ _ _ named (ap is_plain plain) small)

pub returns-clause-stay : goal.returns-clause-stay
returns-clause-stay c = rw (c.in_ok-push.ensures.items, ← c.self.view_is) (StayLate-net _ _)

pub returns-clause-late : goal.returns-clause-late
returns-clause-late c = rw (c.in_ok-push.ensures.items, ← c.self.view_is) (IsLate-net _ _ c.self.invariant.wired.results c.self.invariant.connected.declared c.requires.low c.requires.high)
