use Rattle.std.proofs.Common.{◌+◌, length, sym, ap, subst, ◌∙◌, length-append}
use Rattle.std.specs.List.{AllByRecursion as Each}
use Rattle.ap_net.proofs.Laws.{IsNet-Makes, Makes-refl, Makes-trans}
use Rattle.ap_stage.specs.Offers.{IsOffer}
use Rattle.ap_stage.proofs.Choosing.{offers_on}
use Rattle.ap_stage.proofs.Listed.{each_both}
use Rattle.stage_tests.proofs.nets.nine_offers.Goals as goal

pub loop-place-init : goal.loop-place-init
loop-place-init c = record { offers = subst (Each (IsOffer c.args.out.now.nets 8)) (sym c.new-offers.ensures.items) tt; count = ap length c.new-offers.ensures.items; makes = Makes-refl _ }

pub loop-place-preserved : goal.loop-place-preserved
loop-place-preserved c =
    let h = c.loop-place.invariant in
    let cond = c.in_ok-cond.ensures in
    let net = c.in_ok-net.ensures in
    let both = Makes-trans _ _ _ cond.wiring.makes net.wiring.makes in
    rw c.in_ok-push.ensures.items (record {
      offers = each_both (IsOffer _ 8) _ _ (offers_on _ _ 8 _ both h.offers) (record { cond = IsNet-Makes _ _ _ net.wiring.makes cond.carries.net; one_bit = cond.carries.wide; net = net.carries.net; wide = net.carries.wide }, tt);
      count = length-append _ _ ∙ ap (λ n. n + 1) h.count;
      makes = Makes-trans _ _ _ h.makes both;
    })
