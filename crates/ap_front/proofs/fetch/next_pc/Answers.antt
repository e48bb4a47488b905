use Rattle.std.proofs.Common.{sym, ◌∙◌}
use Rattle.ap_net.proofs.Laws.{IsNet-Makes, Makes-trans}
use Rattle.ap_flight.proofs.Steps.{IsBit-Makes}
use Rattle.ap_front.proofs.Fetched.{next_from, next_value}
use Rattle.ap_front.proofs.fetch.next_pc.Goals as goal

pub either-requires : goal.either-requires
either-requires c =
    let a = c.in_ok-after.ensures in
    record {
      fresh = a.makes.fresh c.requires.fresh;
      cond = IsBit-Makes a.makes c.args.given.kill c.requires.kill;
      yes = IsNet-Makes _ _ c.args.given.target a.makes c.requires.target.net;
      no = a.carries.net;
      same = a.carries.wide ∙ sym c.requires.target.same;
    }

pub either-requires-2 : goal.either-requires-2
either-requires-2 c =
    let m = Makes-trans _ _ _ c.in_ok-after.ensures.makes c.in_ok-goes.ensures.makes in
    record {
      fresh = m.fresh c.requires.fresh;
      cond = IsBit-Makes m c.args.given.hold c.requires.hold;
      yes = IsNet-Makes _ _ c.args.given.pc m c.requires.pc;
      no = c.in_ok-goes.ensures.carries.net;
      same = c.in_ok-goes.ensures.carries.wide ∙ c.requires.target.same;
    }

pub returns-clause-carries : goal.returns-clause-carries
returns-clause-carries c = next_value c.args.given _ _ _ c.in_ok-after.after c.in_ok-goes.goes c.in_ok-next.next c.in_ok-goes.ensures.makes c.in_ok-next.ensures.makes c.in_ok-after.ensures.carries c.in_ok-goes.ensures.carries c.in_ok-next.ensures.carries

pub returns-clause-yields : goal.returns-clause-yields
returns-clause-yields c = next_from c.args.given _ _ _ _ c.in_ok-after.after c.in_ok-goes.goes c.in_ok-next.next c.in_ok-after.ensures.yields c.in_ok-goes.ensures.yields c.in_ok-next.ensures.yields

pub returns-clause-makes : goal.returns-clause-makes
returns-clause-makes c = Makes-trans _ _ _ c.in_ok-after.ensures.makes (Makes-trans _ _ _ c.in_ok-goes.ensures.makes c.in_ok-next.ensures.makes)
