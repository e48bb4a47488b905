use Rattle.std.proofs.Common.{◌≡◌, length, refl, sym, inl, inr}
use Rattle.std.proofs.lemmas.Bool.Decides.{Decides-eqb}
use Rattle.ap_net.proofs.Laws.{IsNet-Makes, Makes-refl, Makes-trans, Yields-same}
use Rattle.ap_flight.specs.Entries.{leaving_numbers}
use Rattle.ap_flight.proofs.SlotNets.{held_takes, net_from, none_takes}
use Rattle.ap_flight.proofs.Steps.{IsBit-Makes}
use Rattle.ap_flight.proofs.slots.slot_net.Goals as goal

pub returns-then-is_empty-clause-carries : goal.returns-then-is_empty-clause-carries
returns-then-is_empty-clause-carries c =
    let none : length c.args.list.now ≡ 0 = (Decides-eqb (length c.args.list.now) 0).0 (sym c.if-is_empty.ensures) in
    none_takes c.args.hold c.args.register c.args.list.now none c.requires.register

pub returns-then-is_empty-clause-yields : goal.returns-then-is_empty-clause-yields
returns-then-is_empty-clause-yields c = Yields-same _ _ _ (inr (inl refl))

pub returns-then-is_empty-clause-makes : goal.returns-then-is_empty-clause-makes
returns-then-is_empty-clause-makes c = Makes-refl _

pub either-requires : goal.either-requires
either-requires c =
    let y = c.in_ok-coming.ensures in
    record {
      fresh = y.makes.fresh c.requires.fresh;
      cond = IsBit-Makes y.makes c.args.hold c.requires.hold;
      yes = IsNet-Makes _ _ c.args.register y.makes c.requires.register;
      no = y.carries.net;
      same = y.carries.wide;
    }

pub returns-clause-carries : goal.returns-clause-carries
returns-clause-carries c = held_takes c.args.hold c.args.register c.in_ok-coming.coming c.in_ok-net.net c.args.list.now c.in_ok-net.ensures.makes.adds.extends c.in_ok-coming.ensures.carries c.in_ok-net.ensures.carries

pub returns-clause-yields : goal.returns-clause-yields
returns-clause-yields c = net_from c.args.hold c.args.register (leaving_numbers c.args.list.now) _ _ _ c.in_ok-coming.coming c.in_ok-net.net c.in_ok-coming.ensures.yields c.in_ok-net.ensures.yields

pub returns-clause-makes : goal.returns-clause-makes
returns-clause-makes c = Makes-trans _ _ _ c.in_ok-coming.ensures.makes c.in_ok-net.ensures.makes
