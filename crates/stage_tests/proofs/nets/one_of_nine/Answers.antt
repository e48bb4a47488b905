use Rattle.std.proofs.Common.{length, sym, ap, subst, ◌∙◌, arith}
use Rattle.std.specs.Prelude.{codes}
use Rattle.ap_net.specs.Draft.{CanFresh}
use Rattle.ap_net.proofs.Laws.{Makes-trans}
use Rattle.ap_stage.proofs.Users.{over_users}
use Rattle.stage_tests.proofs.Alone.{fresh_blank, made_shown}
use Rattle.stage_tests.proofs.nets.one_of_nine.Goals as goal

pub nine_offers-requires : goal.nine_offers-requires
nine_offers-requires c = subst CanFresh (sym c.in_ok-out.ensures) (fresh_blank (codes "nine"))

pub chosen-requires : goal.chosen-requires
chosen-requires c =
    let y = c.in_ok-offers.ensures in
    record {
      fresh = y.makes.fresh (subst CanFresh (sym c.in_ok-out.ensures) (fresh_blank (codes "nine")));
      offers = rw c.deref.ensures.value y.offers;
      over = over_users (length c.deref.result.now) 9 c.in_ok-select.select c.in_ok-select.ensures (ap length c.deref.ensures.value ∙ y.count);
    }

pub shown-requires : goal.shown-requires
shown-requires c =
    let h = made_shown _ _ _ c.in_ok-out.ensures (Makes-trans _ _ _ c.in_ok-offers.ensures.makes c.in_ok-y.ensures.makes) in
    record { adds = h.adds; closes = h.closes; new = h.new; net = c.in_ok-y.ensures.carries.net; wide = c.in_ok-y.ensures.carries.wide; low = omega arith; high = omega arith }
