use Rattle.std.proofs.Common.{ap, ◌∙◌, ◌/◌, ◌^◌}
use Rattle.ap_net.proofs.Laws.{Makes-trans}
use Rattle.ap_comb.proofs.avg.half_of_sum.Goals as goal

pub returns-clause-value : goal.returns-clause-value
returns-clause-value c = λ read s.
    let wide = c.in_ok-wide.ensures.value read s in
    let half = c.in_ok-half.ensures.value read wide.0 in
    let sum = c.in_ok-sum.ensures.value read half.0 in
    (sum.0, wide.1 ∙ half.1 ∙ ap (λ n. n / 2 ^ 1) sum.1)

pub returns-clause-makes : goal.returns-clause-makes
returns-clause-makes c = Makes-trans _ _ _ c.in_ok-sum.ensures.makes (Makes-trans _ _ _ c.in_ok-half.ensures.makes c.in_ok-wide.ensures.makes)
