use Rattle.ap_net.proofs.Laws.{Makes-trans}
use Rattle.ap_mul.proofs.sum.sum_with_carry.Goals as goal

pub returns-clause-value : goal.returns-clause-value
returns-clause-value c = λ read s.
    let carry = c.in_ok-carry.ensures.value read s in
    let sum = c.in_ok-sum.ensures.value read carry.0 in
    (sum.0, (sum.1, carry.1 sum.1))

pub returns-clause-makes : goal.returns-clause-makes
returns-clause-makes c = Makes-trans _ _ _ c.in_ok-sum.ensures.makes c.in_ok-carry.ensures.makes
