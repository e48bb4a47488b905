use Rattle.kinds.proofs.text_for.Goals as goal

pub kind-kind-requires : goal.kind-kind-requires
kind-kind-requires g c = c.in-Some.ensures.within
