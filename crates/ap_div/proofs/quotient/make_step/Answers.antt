use Rattle.std.proofs.Common.{◌<◌, ◌^◌, ◌∙◌, subst, sym}
use Rattle.ap_net.proofs.Laws.{IsNet-Makes, Makes-trans}
use Rattle.ap_unit.specs.Stepping.{IsPair}
use Rattle.ap_div.proofs.Differences.{made_step}
use Rattle.ap_div.proofs.quotient.make_step.Goals as goal

pub longer-requires-clause-before : goal.longer-requires-clause-before
longer-requires-clause-before c = subst (λ n. IsPair c.args.out.now.nets n c.args.before) (sym c.requires.before.high_width) c.requires.before

pub returns-clause-value : goal.returns-clause-value
returns-clause-value c = λ read s.
    let low = c.in_ok-low.ensures.value read s in
    let high = c.in_ok-high.ensures.value read low.0 in
    let fits = c.in_ok-fits.ensures.value read high.0 in
    let less = c.in_ok-less.ensures.value read fits.0 in
    let rest = c.in_ok-rest.ensures.value read less.0 in
    let before = c.args.before in
    let pair = c.requires.before in
    let b = c.args.b in
    let fits_b = rest.0.fits b.number b.width c.requires.b.declared in
    let fits_high = subst (λ n. read before.high.number < 2 ^ n) pair.high_width (rest.0.fits before.high.number before.high.width pair.high.declared) in
    let fits_low = subst (λ n. read before.low.number < 2 ^ n) pair.low_width (rest.0.fits before.low.number before.low.width pair.low.declared) in (
      rest.0,
      made_step b.width (read b.number) (read before.high.number) (read before.low.number) (read c.in_ok-rest.rest.number) (read c.in_ok-less.less.difference.number) (read c.in_ok-less.less.covers.number)
          (read c.in_ok-fits.fits.number) (read c.in_ok-high.high.number) (read c.in_ok-low.low.number) before.high.width before.low.width c.in_ok-rest.rest.width c.requires.low fits_b fits_high fits_low
          c.in_ok-rest.ensures.net.1 pair.high_width pair.low_width rest.1 less.1.0 less.1.1 fits.1 high.1 low.1,
    )

pub returns-clause-makes : goal.returns-clause-makes
returns-clause-makes c =
    let first = Makes-trans _ _ _ c.in_ok-rest.ensures.makes c.in_ok-less.ensures.makes in
    let last = Makes-trans _ _ _ c.in_ok-high.ensures.makes c.in_ok-low.ensures.makes in
    Makes-trans _ _ _ first (Makes-trans _ _ _ c.in_ok-fits.ensures.makes last)

pub top_or-requires-clause-x : goal.top_or-requires-clause-x
top_or-requires-clause-x c = IsNet-Makes _ _ _ c.in_ok-less.ensures.makes (IsNet-Makes _ _ _ c.in_ok-rest.ensures.makes c.requires.before.high)

pub make-requires-clause-fits : goal.make-requires-clause-fits
make-requires-clause-fits c =
    let rest = c.in_ok-rest.ensures in
    let less = c.in_ok-less.ensures in
    let fits = c.in_ok-fits.ensures in (
      fits.net.0,
      IsNet-Makes _ _ _ fits.makes less.difference.0,
      IsNet-Makes _ _ _ fits.makes (IsNet-Makes _ _ _ less.makes rest.net.0),
      fits.net.1,
      less.difference.1 ∙ rest.net.1 ∙ c.requires.before.high_width,
      rest.net.1 ∙ c.requires.before.high_width,
    )

pub moved_up-requires-clause-x : goal.moved_up-requires-clause-x
moved_up-requires-clause-x c =
    let to_less = IsNet-Makes _ _ _ c.in_ok-less.ensures.makes (IsNet-Makes _ _ _ c.in_ok-rest.ensures.makes c.requires.before.low) in
    IsNet-Makes _ _ _ c.in_ok-high.ensures.makes (IsNet-Makes _ _ _ c.in_ok-fits.ensures.makes to_less)
