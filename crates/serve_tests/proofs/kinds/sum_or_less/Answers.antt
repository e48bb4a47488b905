use Rattle.std.proofs.Common.{◌∙◌, refl}
use Rattle.ap_net.proofs.Laws.{Makes-trans}
use Rattle.serve_tests.proofs.kinds.sum_or_less.Goals as goal

pub returns-clause-value : goal.returns-clause-value
returns-clause-value c = λ read s.
    let y = c.in_ok-y.ensures.value read s in
    let sum = c.in_ok-sum.ensures.value read y.0 in
    let less = c.in_ok-less.ensures.value read sum.0 in
    (less.0, y.1 ∙ rw (sum.1, less.1) refl)

pub returns-clause-makes : goal.returns-clause-makes
returns-clause-makes c = Makes-trans _ _ _ c.in_ok-less.ensures.makes (Makes-trans _ _ _ c.in_ok-sum.ensures.makes c.in_ok-y.ensures.makes)
