use Rattle.std.proofs.Common.{◌∙◌, ap, arith, not, sym}
use Rattle.ap_vr.proofs.FirstLines.{first_begins, first_further, first_here, first_nowhere}
use Rattle.ap_vr.proofs.scope.unknown_next.Goals as goal

pub loop-place-init : goal.loop-place-init
loop-place-init c = first_begins _ c.args.from c.args.nexts.now

pub returns-then-not-knows_next : goal.returns-then-not-knows_next
returns-then-not-knows_next c =
    first_here _ c.args.from c.args.nexts.now c.loop-place.place c.index-nexts-place.result _ c.loop-place.invariant c.loop-place-test.true c.index-nexts-place.is (ap not (sym c.knows_next.ensures ∙ c.if-not-knows_next.true))

pub loop-place-preserved : goal.loop-place-preserved
loop-place-preserved c =
    first_further _ c.args.from c.args.nexts.now c.loop-place.place c.index-nexts-place.result _ c.loop-place.invariant c.loop-place-test.true c.index-nexts-place.is (ap not (sym c.knows_next.ensures ∙ c.if-not-knows_next.false))

pub returns : goal.returns
returns c = first_nowhere _ c.args.from c.args.nexts.now c.loop-place.place _ c.loop-place.invariant (omega (arith, c.loop-place-test.false))
