use Rattle.std.proofs.Common.{◌<◌, ◌^◌, subst}
use Rattle.ap_net.proofs.Laws.{Makes-trans}
use Rattle.ap_div.proofs.Differences.{longer_is}
use Rattle.ap_div.proofs.quotient.longer.Goals as goal

pub returns-clause-value : goal.returns-clause-value
returns-clause-value c = λ read s.
    let rest = c.in_ok-rest.ensures.value read s in
    let next = c.in_ok-next.ensures.value read rest.0 in
    let before = c.args.before in
    let pair = c.requires.before in
    let w = before.high.width in
    let fits_high = next.0.fits before.high.number w pair.high.declared in
    let fits_low = subst (λ n. read before.low.number < 2 ^ n) pair.low_width (next.0.fits before.low.number before.low.width pair.low.declared) in (
      next.0,
      longer_is w (read before.high.number) (read before.low.number) (read c.in_ok-next.next.number) (read c.in_ok-rest.rest.number) before.low.width c.requires.low fits_high fits_low pair.low_width next.1 rest.1,
    )

pub returns-clause-makes : goal.returns-clause-makes
returns-clause-makes c = Makes-trans _ _ _ c.in_ok-next.ensures.makes c.in_ok-rest.ensures.makes
