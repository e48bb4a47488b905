use Rattle.std.proofs.Common.{◌∙◌, ap, arith, not, sym}
use Rattle.ap_vr.proofs.FirstLines.{first_begins, first_further, first_here, first_nowhere}
use Rattle.ap_vr.proofs.scope.unknown_assign.Goals as goal

pub loop-place-init : goal.loop-place-init
loop-place-init c = first_begins _ c.args.from c.args.assigns.now

pub returns-then-not-knows_assign : goal.returns-then-not-knows_assign
returns-then-not-knows_assign c =
    first_here _ c.args.from c.args.assigns.now c.loop-place.place c.index-assigns-place.result _ c.loop-place.invariant c.loop-place-test.true c.index-assigns-place.is (ap not (sym c.knows_assign.ensures ∙ c.if-not-knows_assign.true))

pub loop-place-preserved : goal.loop-place-preserved
loop-place-preserved c =
    first_further _ c.args.from c.args.assigns.now c.loop-place.place c.index-assigns-place.result _ c.loop-place.invariant c.loop-place-test.true c.index-assigns-place.is (ap not (sym c.knows_assign.ensures ∙ c.if-not-knows_assign.false))

pub returns : goal.returns
returns c = first_nowhere _ c.args.from c.args.assigns.now c.loop-place.place _ c.loop-place.invariant (omega (arith, c.loop-place-test.false))
