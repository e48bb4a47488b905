use Rattle.std.proofs.Common.{◌-◌, ◌/◌, length, drop, take, arith, rules, ◌≤◌}
use Rattle.ap_net.proofs.Laws.{IsNet-Makes, Extends-trans, Makes-trans}
use Rattle.ap_flight.proofs.Steps.{Carries-width, IsBit-Makes, IsBit-Tells, IsLeaving-Makes, Yields-fewer, alone_among, alone_carries, choice_from, joined_carries}
use Rattle.ap_flight.specs.Entries.{IsLeaving}
use Rattle.ap_flight.proofs.Halves.{Each-drop, Each-take, second_length}
use Rattle.ap_flight.proofs.entry.+chosen.Goals as goal

pub returns-then-list-eq1-clause-carries : goal.returns-then-list-eq1-clause-carries
returns-then-list-eq1-clause-carries t c = alone_carries c.args.width c.args.list.now c.in_ok-net.net (omega arith) c.in_ok-net.ensures.carries

pub returns-then-list-eq1-clause-yields : goal.returns-then-list-eq1-clause-yields
returns-then-list-eq1-clause-yields t c = Yields-fewer _ _ _ _ _ ((alone_among c.args.list.now (omega arith)).1, tt) c.in_ok-net.ensures.yields

pub returns-clause-carries : goal.returns-clause-carries
returns-clause-carries t c =
    let first = c.in_ok-first.ensures in
    let second = c.in_ok-second.ensures in
    let net = c.in_ok-net-2.ensures in
    joined_carries (length c.args.list.now / 2) c.args.width c.args.list.now c.in_ok-first.first.cond c.in_ok-first.first.net c.in_ok-second.second c.in_ok-net-2.net
    (Extends-trans _ _ _ second.makes.adds.extends net.makes.adds.extends) net.makes.adds.extends first.cond first.net second.carries
    (Carries-width first.net.wide net.carries)

pub returns-clause-yields : goal.returns-clause-yields
returns-clause-yields t c =
    let first = c.in_ok-first.ensures in
    choice_from (length c.args.list.now / 2) c.args.list.now _ _ _ _ c.in_ok-first.first.cond c.in_ok-first.first.net c.in_ok-second.second c.in_ok-net-2.net first.cond_yields first.net_yields c.in_ok-second.ensures.yields c.in_ok-net-2.ensures.yields

pub returns-clause-makes : goal.returns-clause-makes
returns-clause-makes t c = Makes-trans _ _ _ c.in_ok-first.ensures.makes (Makes-trans _ _ _ c.in_ok-second.ensures.makes c.in_ok-net-2.ensures.makes)

pub either-requires-clause-cond : goal.either-requires-clause-cond
either-requires-clause-cond t c = IsBit-Makes c.in_ok-second.ensures.makes c.in_ok-first.first.cond (IsBit-Tells c.in_ok-first.first.cond c.in_ok-first.ensures.cond)

pub either-requires-clause-yes : goal.either-requires-clause-yes
either-requires-clause-yes t c = IsNet-Makes _ _ c.in_ok-first.first.net c.in_ok-second.ensures.makes c.in_ok-first.ensures.net.net

pub chosen-requires : goal.chosen-requires
chosen-requires t c =
    let middle = length c.args.list.now / 2 in
    let long = second_length middle c.args.list.now in
    let some : 1 ≤ length (take (length c.args.list.now - middle) (drop middle c.args.list.now)) = omega arith in
    let list = IsLeaving-Makes c.in_ok-first.ensures.makes c.args.width (take (length c.args.list.now - middle) (drop middle c.args.list.now))
    (Each-take (IsLeaving c.args.out.now.nets c.args.width) (length c.args.list.now - middle) (drop middle c.args.list.now) (Each-drop (IsLeaving c.args.out.now.nets c.args.width) middle c.args.list.now c.requires.list)) in
    (search rules, (c.in_ok-first.ensures.makes.fresh c.requires.fresh, (some, (list, (c.requires.low, c.requires.high)))))
