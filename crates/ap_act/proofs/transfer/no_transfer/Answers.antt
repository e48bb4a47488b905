use Rattle.ap_net.proofs.Laws.{Makes-trans}
use Rattle.ap_act.proofs.Taken.{no_nets, zeros_from}
use Rattle.ap_act.proofs.transfer.no_transfer.Goals as goal

pub returns-clause-nets : goal.returns-clause-nets
returns-clause-nets c = no_nets c.args.out.now c.zero.new.out c.zero-2.new.out c.args.valid c.in_ok-taken.taken c.in_ok-target.target c.args.width c.in_ok-taken.ensures.zero c.in_ok-target.ensures.makes.adds.extends c.in_ok-target.ensures.zero

pub returns-clause-from : goal.returns-clause-from
returns-clause-from c = zeros_from c.args.out.now c.zero.new.out c.zero-2.new.out c.in_ok-taken.taken c.in_ok-target.target c.in_ok-taken.ensures.yields c.in_ok-target.ensures.yields

pub returns-clause-makes : goal.returns-clause-makes
returns-clause-makes c = Makes-trans _ _ _ c.in_ok-taken.ensures.makes c.in_ok-target.ensures.makes
