use Rattle.std.proofs.Common.{◌+◌, length, Some, sym, ap, subst, ◌∙◌, length-append}
use Rattle.std.specs.List.{AllByRecursion as Each}
use Rattle.ap_net.proofs.Laws.{Makes-refl, Makes-trans}
use Rattle.ap_stage.proofs.Listed.{each_both}
use Rattle.ap_effect.specs.Writers.{IsWriter}
use Rattle.ap_effect.proofs.Growing.{writers_on}
use Rattle.effect_tests.proofs.ports.three_writers.Goals as goal

pub loop-place-init : goal.loop-place-init
loop-place-init c = record { writers = subst (Each (IsWriter c.args.out.now.nets (Some 4) 8)) (sym c.new-writers.ensures.items) tt; count = ap length c.new-writers.ensures.items; makes = Makes-refl _ }

pub loop-place-preserved : goal.loop-place-preserved
loop-place-preserved c =
    let h = c.loop-place.invariant in
    let made = c.in_ok-made.ensures in
    rw c.in_ok-push.ensures.items (record {
      writers = each_both (IsWriter _ (Some 4) 8) _ _ (writers_on _ _ (Some 4) 8 _ made.makes h.writers) (made.writer, tt);
      count = length-append _ _ ∙ ap (λ n. n + 1) h.count;
      makes = Makes-trans _ _ _ h.makes made.makes;
    })
