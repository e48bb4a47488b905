use Rattle.ap_net.proofs.Laws.{IsNet-Makes, Makes-trans}
use Rattle.ap_ctl.proofs.Bits.{IsBit-Makes}
use Rattle.effect_tests.proofs.transfers.two_transfers.Goals as goal

pub returns-clause-transfers : goal.returns-clause-transfers
returns-clause-transfers c =
    let near = c.in_ok-near.ensures in
    let far = c.in_ok-far.ensures in
    let last = Makes-trans _ _ _ near.wiring.makes far.wiring.makes in
    let more = Makes-trans _ _ _ c.in_ok-branch.ensures.makes last in (
      record {
        guarded = record { cond = IsBit-Makes _ _ c.in_ok-first.first (Makes-trans _ _ _ c.in_ok-second.ensures.makes more) c.in_ok-first.ensures.net; guard = IsBit-Makes _ _ c.in_ok-branch.branch last c.in_ok-branch.ensures.net };
        index = tt;
        value = IsNet-Makes _ _ c.in_ok-near.near far.wiring.makes near.carries.net;
        wide = near.carries.wide;
      },
      (record { guarded = record { cond = IsBit-Makes _ _ c.in_ok-second.second more c.in_ok-second.ensures.net; guard = tt }; index = tt; value = far.carries.net; wide = far.carries.wide }, tt),
    )

pub returns-clause-makes : goal.returns-clause-makes
returns-clause-makes c =
    Makes-trans _ _ _ c.in_ok-first.ensures.makes (Makes-trans _ _ _ c.in_ok-second.ensures.makes (Makes-trans _ _ _ c.in_ok-branch.ensures.makes (Makes-trans _ _ _ c.in_ok-near.ensures.wiring.makes c.in_ok-far.ensures.wiring.makes)))
