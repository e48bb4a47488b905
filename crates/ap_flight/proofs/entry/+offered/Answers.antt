use Rattle.std.proofs.Common.{◌-◌, ◌/◌, length, drop, take, arith, rules, inl, ◌≤◌, sym, ◌∙◌}
use Rattle.ap_net.proofs.Laws.{IsNet-Makes, Carries-Extends, Extends-trans, Makes-trans, Yields-made}
use Rattle.ap_flight.proofs.Steps.{Carries-width, IsBit-Makes, IsBit-Tells, IsLeaving-Makes, Yields-fewer, alone_among, alone_carries, alone_cond, cond_from, joined_carries, joined_cond, pair_from}
use Rattle.ap_flight.specs.Entries.{IsLeaving}
use Rattle.ap_flight.proofs.Halves.{Each-drop, Each-take, second_length}
use Rattle.ap_flight.proofs.entry.+offered.Goals as goal

pub returns-then-list-eq1-clause-cond : goal.returns-then-list-eq1-clause-cond
returns-then-list-eq1-clause-cond t c = alone_cond _ c.args.width c.args.list.now (omega arith) (IsLeaving-Makes c.in_ok-net.ensures.makes c.args.width c.args.list.now c.requires.list)

pub returns-then-list-eq1-clause-net : goal.returns-then-list-eq1-clause-net
returns-then-list-eq1-clause-net t c = alone_carries c.args.width c.args.list.now c.in_ok-net.net (omega arith) c.in_ok-net.ensures.carries

pub returns-then-list-eq1-clause-cond_yields : goal.returns-then-list-eq1-clause-cond_yields
returns-then-list-eq1-clause-cond_yields t c = record { reads = (Yields-fewer _ _ _ _ _ ((alone_among c.args.list.now (omega arith)).1, tt) c.in_ok-net.ensures.yields).reads; result = inl (alone_among c.args.list.now (omega arith)).0 }

pub returns-then-list-eq1-clause-net_yields : goal.returns-then-list-eq1-clause-net_yields
returns-then-list-eq1-clause-net_yields t c = Yields-fewer _ _ _ _ _ ((alone_among c.args.list.now (omega arith)).1, tt) c.in_ok-net.ensures.yields

pub returns-clause-cond : goal.returns-clause-cond
returns-clause-cond t c =
    let middle = length c.args.list.now / 2 in
    let first = c.in_ok-first.ensures in
    let second = c.in_ok-second.ensures in
    let net = c.in_ok-net-2.ensures in
    let cond = c.in_ok-cond.ensures in
    joined_cond middle c.args.list.now c.in_ok-first.first.cond c.in_ok-second.second.cond c.in_ok-cond.cond
    (Extends-trans _ _ _ second.makes.adds.extends (Extends-trans _ _ _ net.makes.adds.extends cond.makes.adds.extends))
    (Extends-trans _ _ _ net.makes.adds.extends cond.makes.adds.extends) cond.makes
    (IsBit-Makes net.makes c.in_ok-first.first.cond (IsBit-Makes second.makes c.in_ok-first.first.cond (IsBit-Tells c.in_ok-first.first.cond first.cond)))
    (IsBit-Makes net.makes c.in_ok-second.second.cond (IsBit-Tells c.in_ok-second.second.cond second.cond))
    first.cond second.cond cond.carries

pub returns-clause-net : goal.returns-clause-net
returns-clause-net t c =
    let middle = length c.args.list.now / 2 in
    let first = c.in_ok-first.ensures in
    let second = c.in_ok-second.ensures in
    let net = c.in_ok-net-2.ensures in
    let cond = c.in_ok-cond.ensures in
    Carries-Extends cond.makes.adds.extends
    (joined_carries middle c.args.width c.args.list.now c.in_ok-first.first.cond c.in_ok-first.first.net c.in_ok-second.second.net c.in_ok-net-2.net
    (Extends-trans _ _ _ second.makes.adds.extends net.makes.adds.extends) net.makes.adds.extends first.cond first.net second.net
    (Carries-width first.net.wide net.carries))

pub returns-clause-cond_yields : goal.returns-clause-cond_yields
returns-clause-cond_yields t c =
    let y = c.in_ok-cond.ensures in
    let first = c.in_ok-first.ensures in
    let second = c.in_ok-second.ensures in
    cond_from (length c.args.list.now / 2) c.args.list.now _ _ _ _ _ c.in_ok-first.first c.in_ok-second.second c.in_ok-net-2.net c.in_ok-cond.cond first.cond_yields first.net_yields second.cond_yields second.net_yields c.in_ok-net-2.ensures.yields (Yields-made _ _ _ _ _ y.reads y.wire y.net.0)

pub returns-clause-net_yields : goal.returns-clause-net_yields
returns-clause-net_yields t c =
    let y = c.in_ok-cond.ensures in
    let first = c.in_ok-first.ensures in
    let second = c.in_ok-second.ensures in
    pair_from (length c.args.list.now / 2) c.args.list.now _ _ _ _ _ c.in_ok-first.first c.in_ok-second.second c.in_ok-net-2.net c.in_ok-cond.cond first.cond_yields first.net_yields second.cond_yields second.net_yields c.in_ok-net-2.ensures.yields (Yields-made _ _ _ _ _ y.reads y.wire y.net.0)

pub returns-clause-makes : goal.returns-clause-makes
returns-clause-makes t c = Makes-trans _ _ _ c.in_ok-first.ensures.makes (Makes-trans _ _ _ c.in_ok-second.ensures.makes (Makes-trans _ _ _ c.in_ok-net-2.ensures.makes c.in_ok-cond.ensures.makes))

pub either-requires-clause-cond : goal.either-requires-clause-cond
either-requires-clause-cond t c = IsBit-Makes c.in_ok-second.ensures.makes c.in_ok-first.first.cond (IsBit-Tells c.in_ok-first.first.cond c.in_ok-first.ensures.cond)

pub either-requires-clause-yes : goal.either-requires-clause-yes
either-requires-clause-yes t c = IsNet-Makes _ _ c.in_ok-first.first.net c.in_ok-second.ensures.makes c.in_ok-first.ensures.net.net

pub make-requires-clause-fits : goal.make-requires-clause-fits
make-requires-clause-fits t c =
    let first = IsBit-Makes c.in_ok-net-2.ensures.makes c.in_ok-first.first.cond (IsBit-Makes c.in_ok-second.ensures.makes c.in_ok-first.first.cond (IsBit-Tells c.in_ok-first.first.cond c.in_ok-first.ensures.cond)) in
    let second = IsBit-Makes c.in_ok-net-2.ensures.makes c.in_ok-second.second.cond (IsBit-Tells c.in_ok-second.second.cond c.in_ok-second.ensures.cond) in
    (first.net, second.net, first.bit ∙ sym second.bit, sym first.bit)

pub offered-requires-2 : goal.offered-requires-2
offered-requires-2 t c =
    let middle = length c.args.list.now / 2 in
    let long = second_length middle c.args.list.now in
    let some : 1 ≤ length (take (length c.args.list.now - middle) (drop middle c.args.list.now)) = omega arith in
    let list = IsLeaving-Makes c.in_ok-first.ensures.makes c.args.width (take (length c.args.list.now - middle) (drop middle c.args.list.now))
    (Each-take (IsLeaving c.args.out.now.nets c.args.width) (length c.args.list.now - middle) (drop middle c.args.list.now) (Each-drop (IsLeaving c.args.out.now.nets c.args.width) middle c.args.list.now c.requires.list)) in
    (search rules, (c.in_ok-first.ensures.makes.fresh c.requires.fresh, (some, (list, (c.requires.low, c.requires.high)))))
