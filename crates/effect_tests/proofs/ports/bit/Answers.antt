use Rattle.effect_tests.proofs.ports.bit.Goals as goal

pub returns-clause-net : goal.returns-clause-net
returns-clause-net c = record { net = c.in_ok-bit.ensures.carries.net; bit = c.in_ok-bit.ensures.carries.wide }

pub returns-clause-makes : goal.returns-clause-makes
returns-clause-makes c = c.in_ok-bit.ensures.wiring.makes
