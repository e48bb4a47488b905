use Rattle.std.proofs.Common.{◌∙◌, ap, arith, not, sym}
use Rattle.ap_vr.proofs.FirstLines.{first_begins, first_further, first_here, first_nowhere}
use Rattle.ap_vr.proofs.widths.misfit_assign.Goals as goal

pub loop-place-init : goal.loop-place-init
loop-place-init c = first_begins _ c.args.from c.args.assigns.now

pub returns-then-not-assign_fits : goal.returns-then-not-assign_fits
returns-then-not-assign_fits c =
    first_here _ c.args.from c.args.assigns.now c.loop-place.place c.index-assigns-place.result _ c.loop-place.invariant c.loop-place-test.true c.index-assigns-place.is (ap not (sym c.assign_fits.ensures ∙ c.if-not-assign_fits.true))

pub loop-place-preserved : goal.loop-place-preserved
loop-place-preserved c =
    first_further _ c.args.from c.args.assigns.now c.loop-place.place c.index-assigns-place.result _ c.loop-place.invariant c.loop-place-test.true c.index-assigns-place.is (ap not (sym c.assign_fits.ensures ∙ c.if-not-assign_fits.false))

pub returns : goal.returns
returns c = first_nowhere _ c.args.from c.args.assigns.now c.loop-place.place _ c.loop-place.invariant (omega (arith, c.loop-place-test.false))
