use Rattle.std.proofs.Common.{◌∙◌}
use Rattle.ap_net.proofs.Laws.{Makes-trans}
use Rattle.ap_comb.proofs.alu.flag.Goals as goal

pub returns-clause-value : goal.returns-clause-value
returns-clause-value c = λ read s.
    let wide = c.in_ok-wide.ensures.value read s in
    let holds = c.in_ok-holds.ensures.value read wide.0 in
    (holds.0, wide.1 ∙ holds.1)

pub returns-clause-makes : goal.returns-clause-makes
returns-clause-makes c = Makes-trans _ _ _ c.in_ok-holds.ensures.makes c.in_ok-wide.ensures.makes
