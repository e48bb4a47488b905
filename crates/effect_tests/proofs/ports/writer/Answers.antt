use Rattle.ap_net.proofs.Laws.{IsNet-Makes, Makes-trans}
use Rattle.ap_ctl.proofs.Bits.{IsBit-Makes}
use Rattle.ap_effect.proofs.Growing.{guard_on}
use Rattle.effect_tests.proofs.ports.writer.Goals as goal

pub returns-clause-writer : goal.returns-clause-writer
returns-clause-writer c =
    let index = c.in_ok-index.ensures in
    let value = c.in_ok-value.ensures in
    let last = Makes-trans _ _ _ index.wiring.makes value.wiring.makes in
    record {
      guarded = record { cond = IsBit-Makes _ _ c.in_ok-cond.cond (Makes-trans _ _ _ c.in_ok-guard.ensures.makes last) c.in_ok-cond.ensures.net; guard = guard_on _ _ last c.in_ok-guard.guard c.in_ok-guard.ensures.net };
      index = (IsNet-Makes _ _ c.in_ok-index.index value.wiring.makes index.carries.net, index.carries.wide);
      value = value.carries.net;
      wide = value.carries.wide;
    }

pub returns-clause-makes : goal.returns-clause-makes
returns-clause-makes c = Makes-trans _ _ _ c.in_ok-cond.ensures.makes (Makes-trans _ _ _ c.in_ok-guard.ensures.makes (Makes-trans _ _ _ c.in_ok-index.ensures.wiring.makes c.in_ok-value.ensures.wiring.makes))
