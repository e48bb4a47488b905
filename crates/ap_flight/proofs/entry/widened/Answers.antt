use Rattle.std.proofs.Common.{◌≡◌, ◌+◌, ◌-◌, ◌≤◌, arith}
use Rattle.ap_net.proofs.Laws.{Makes-trans, Yields-made}
use Rattle.ap_net.proofs.Laws.{IsNet-Makes}
use Rattle.ap_flight.proofs.Steps.{wide_from, wide_value}
use Rattle.ap_flight.proofs.entry.widened.Goals as goal

pub returns-clause-carries : goal.returns-clause-carries
returns-clause-carries c = wide_value (c.args.width - c.args.net.width) c.args.width c.args.net c.in_ok-zeros.zeros c.in_ok-wide.wide c.in_ok-wide.ensures.makes c.in_ok-zeros.ensures.carries c.in_ok-wide.ensures.carries

pub returns-clause-yields : goal.returns-clause-yields
returns-clause-yields c =
    let zeros = c.in_ok-zeros.ensures in
    let wide = c.in_ok-wide.ensures in
    wide_from c.args.net _ _ _ c.in_ok-zeros.zeros c.in_ok-wide.wide (Yields-made _ _ _ _ _ zeros.reads zeros.wire zeros.net.0) (Yields-made _ _ _ _ _ wide.reads wide.wire wide.net.0)

pub returns-clause-makes : goal.returns-clause-makes
returns-clause-makes c = Makes-trans _ _ _ c.in_ok-zeros.ensures.makes c.in_ok-wide.ensures.makes

pub make-requires-2-clause-fits : goal.make-requires-2-clause-fits
make-requires-2-clause-fits c =
    let zeros = c.in_ok-zeros.ensures in
    let low : c.args.net.width ≤ c.args.width = c.requires.wide in
    let wide : c.in_ok-zeros.zeros.width ≡ c.args.width - c.args.net.width = zeros.net.1 in
    let both : c.in_ok-zeros.zeros.width + c.args.net.width ≡ c.args.width = omega (arith, low, wide) in
    (zeros.net.0, IsNet-Makes _ _ c.args.net zeros.makes c.requires.net, both)
