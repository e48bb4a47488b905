use Rattle.std.proofs.Common.{sym, ◌∙◌}
use Rattle.ap_top.proofs.Additions.{found_addition}
use Rattle.ap_top.proofs.addition.find_addition.Goals as goal

pub kind-kind-requires : goal.kind-kind-requires
kind-kind-requires g c = c.in_ok-place.ensures.within

pub returns-clause-some : goal.returns-clause-some
returns-clause-some g c = found_addition _ _ _ _ _ c.in_ok-place.ensures.place c.kind-kind.ensures (sym c.fits.ensures ∙ c.if-not-fits.false) (sym c.latency.ensures ∙ c.if-latency-ne1.false) c.in_ok-number.ensures.some
