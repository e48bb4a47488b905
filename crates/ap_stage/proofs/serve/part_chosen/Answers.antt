use Rattle.std.proofs.Common.{length}
use Rattle.ap_net.proofs.Laws.{Makes-trans, Yields-after, settled_before}
use Rattle.ap_merge.specs.Selects.{depth}
use Rattle.ap_stage.specs.Courses.{IsCourse, courses_numbers, users_of}
use Rattle.ap_stage.specs.Offers.{numbers_of}
use Rattle.ap_stage.proofs.Offered.{are_offers, low_offers, numbers_from, offers_long, selected_hands}
use Rattle.ap_stage.proofs.Users.{over_users, users_are}
use Rattle.ap_stage.proofs.Offered.{low_selected, offered_all}
use Rattle.ap_stage.proofs.serve.part_chosen.Goals as goal

pub chosen-requires-clause-fresh : goal.chosen-requires-clause-fresh
chosen-requires-clause-fresh c = c.in_ok-offers.ensures.makes.fresh c.requires.fresh

pub chosen-requires-clause-offers : goal.chosen-requires-clause-offers
chosen-requires-clause-offers c =
    rw c.as_slice.ensures (are_offers _ _ c.args.ground.now c.args.part c.args.width (users_of c.args.port c.args.courses.now) c.in_ok-offers.offers c.in_ok-offers.ensures.makes.adds
    (users_are (IsCourse c.args.out.now c.args.ground.now) c.args.port c.args.courses.now c.requires.courses) (offered_all _ _ _ _ _ _ _ _ c.in_ok-offers.ensures.adds).0)

pub chosen-requires-clause-over : goal.chosen-requires-clause-over
chosen-requires-clause-over c =
    rw c.as_slice.ensures (over_users (length c.in_ok-offers.offers) (length (users_of c.args.port c.args.courses.now)) c.args.select.now c.requires.over
    (offers_long _ c.args.ground.now c.args.part c.args.width (users_of c.args.port c.args.courses.now) c.in_ok-offers.offers (offered_all _ _ _ _ _ _ _ _ c.in_ok-offers.ensures.adds).0))

pub returns-clause-carries : goal.returns-clause-carries
returns-clause-carries c =
    let y = rw c.as_slice.ensures at c.in_ok-net.ensures.carries in
    selected_hands _ _ c.args.ground.now c.args.part c.args.width (users_of c.args.port c.args.courses.now) c.in_ok-offers.offers c.args.select.now c.in_ok-net.net (λ r s. settled_before c.in_ok-net.ensures.makes.adds.extends r s)
    (offered_all _ _ _ _ _ _ _ _ c.in_ok-offers.ensures.adds).0 c.requires.over y

pub returns-clause-low : goal.returns-clause-low
returns-clause-low c =
    low_selected _ _ (depth c.args.select.now) c.in_ok-offers.offers c.in_ok-net.net
    (rw c.as_slice.ensures at c.in_ok-net.ensures.shallow) (low_offers _ c.args.ground.now c.args.part c.args.width (users_of c.args.port c.args.courses.now) c.in_ok-offers.offers (offered_all _ _ _ _ _ _ _ _ c.in_ok-offers.ensures.adds).0)

pub returns-clause-yields : goal.returns-clause-yields
returns-clause-yields c =
    let adds = c.in_ok-offers.ensures.adds in
    Yields-after (courses_numbers c.args.ground.now c.args.courses.now) (numbers_of c.in_ok-offers.offers) _ _ _ c.in_ok-net.net adds.reads (rw c.as_slice.ensures at c.in_ok-net.ensures.reads)
    (numbers_from (courses_numbers c.args.ground.now c.args.courses.now) _ _ c.in_ok-offers.offers (offered_all _ _ _ _ _ _ _ _ adds).1)

pub returns-clause-makes : goal.returns-clause-makes
returns-clause-makes c = Makes-trans _ _ _ c.in_ok-offers.ensures.makes c.in_ok-net.ensures.makes
