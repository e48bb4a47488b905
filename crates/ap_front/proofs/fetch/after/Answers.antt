use Rattle.std.proofs.Common.{refl, sym}
use Rattle.ap_net.proofs.Laws.{IsNet-Makes, Makes-trans, Yields-made}
use Rattle.ap_front.proofs.Fetched.{after_from, after_value, one_fits}
use Rattle.ap_front.proofs.fetch.after.Goals as goal

pub make-requires-clause-fits : goal.make-requires-clause-fits
make-requires-clause-fits c = one_fits c.args.net.width c.requires.net.low

pub make-requires-2-clause-fits : goal.make-requires-2-clause-fits
make-requires-2-clause-fits c =
    let one = c.in_ok-one.ensures in
    (IsNet-Makes _ _ c.args.net one.makes c.requires.net, one.net.0, sym one.net.1, refl)

pub returns-clause-carries : goal.returns-clause-carries
returns-clause-carries c = after_value c.args.net c.in_ok-one.one c.in_ok-after.after c.in_ok-after.ensures.makes c.in_ok-one.ensures.carries c.in_ok-after.ensures.carries

pub returns-clause-yields : goal.returns-clause-yields
returns-clause-yields c =
    let one = c.in_ok-one.ensures in
    let after = c.in_ok-after.ensures in
    after_from c.args.net _ _ _ c.in_ok-one.one c.in_ok-after.after (Yields-made _ _ _ _ _ one.reads one.wire one.net.0) (Yields-made _ _ _ _ _ after.reads after.wire after.net.0)

pub returns-clause-makes : goal.returns-clause-makes
returns-clause-makes c = Makes-trans _ _ _ c.in_ok-one.ensures.makes c.in_ok-after.ensures.makes
