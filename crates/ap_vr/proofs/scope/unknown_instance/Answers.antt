use Rattle.std.proofs.Common.{◌∙◌, ap, arith, not, sym}
use Rattle.ap_vr.proofs.FirstLines.{first_begins, first_further, first_here, first_nowhere}
use Rattle.ap_vr.proofs.scope.unknown_instance.Goals as goal

pub loop-place-init : goal.loop-place-init
loop-place-init c = first_begins _ c.args.from c.args.instances.now

pub returns-then-not-knows_instance : goal.returns-then-not-knows_instance
returns-then-not-knows_instance c =
    first_here _ c.args.from c.args.instances.now c.loop-place.place c.index-instances-place.result _ c.loop-place.invariant c.loop-place-test.true c.index-instances-place.is (ap not (sym c.knows_instance.ensures ∙ c.if-not-knows_instance.true))

pub loop-place-preserved : goal.loop-place-preserved
loop-place-preserved c =
    first_further _ c.args.from c.args.instances.now c.loop-place.place c.index-instances-place.result _ c.loop-place.invariant c.loop-place-test.true c.index-instances-place.is (ap not (sym c.knows_instance.ensures ∙ c.if-not-knows_instance.false))

pub returns : goal.returns
returns c = first_nowhere _ c.args.from c.args.instances.now c.loop-place.place _ c.loop-place.invariant (omega (arith, c.loop-place-test.false))
