use Rattle.std.proofs.Common.{◌+◌, refl, sym, subst, ◌∙◌}
use Rattle.std.specs.Prelude.{slice_index}
use Rattle.ap_asm.specs.Standing.{ArePicked}
use Rattle.ap_asm.proofs.Listed.{none_picked, picked_more, picked_same}
use Rattle.ap_asm.proofs.encoding.landings_of.Goals as goal
use Rattle.ap_asm.proofs.encoding.landings_of.Goals.{then-is_landing+in_ok-push, else-is_landing}

pub loop-i-init : goal.loop-i-init
loop-i-init c = subst (ArePicked c.args.design.now c.args.source.now c.args.ends.now 0) (sym c.new-landings.ensures) (none_picked c.args.design.now c.args.source.now c.args.ends.now)

pub loop-i-preserved : goal.loop-i-preserved
loop-i-preserved c = elim c.if-is_landing.branch [
  | then-is_landing+in_ok-push w ↦ subst (ArePicked c.args.design.now c.args.source.now c.args.ends.now (c.loop-i.i + 1)) (sym (w.landings-is ∙ w.in_ok-push.ensures.ok))
      (picked_more c.args.design.now c.args.source.now c.args.ends.now c.loop-i.i c.loop-i.landings (slice_index c.args.ends.now c.loop-i.i) c.requires c.loop-i-test.true refl (sym c.is_landing.ensures ∙ w.if-is_landing.true) c.loop-i.invariant)
  | else-is_landing w ↦ subst (ArePicked c.args.design.now c.args.source.now c.args.ends.now (c.loop-i.i + 1)) (sym w.landings-is)
      (picked_same c.args.design.now c.args.source.now c.args.ends.now c.loop-i.i c.loop-i.landings (sym c.is_landing.ensures ∙ w.if-is_landing.false) c.loop-i.invariant)
]
