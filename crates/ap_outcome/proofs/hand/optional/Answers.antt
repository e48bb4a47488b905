use Rattle.ap_outcome.proofs.hand.optional.Goals as goal

pub returns-in_ok-net-in-Some-clause-from : goal.returns-in_ok-net-in-Some-clause-from
returns-in_ok-net-in-Some-clause-from c = (c.in_ok-net-in-Some.ensures.wiring.yields.result, tt)
