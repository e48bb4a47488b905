use Rattle.ap_net.proofs.builder.Builder.named.Goals as goal

pub returns-clause-fresh : goal.returns-clause-fresh
returns-clause-fresh c = rw (← c.in_ok-name.ensures.same) c.declare.ensures.named
