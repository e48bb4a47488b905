use Rattle.std.proofs.Common.{◌∙◌, refl, rules}
use Rattle.ap_net.proofs.Laws.{Makes-trans, laws}
use Rattle.circuit_tests.proofs.nand.not_both.Goals as goal

pub returns-clause-value : goal.returns-clause-value
returns-clause-value c = λ read s.
    let others = c.in_ok-others.ensures.value read s in
    let ones = c.in_ok-ones.ensures.value read others.0 in
    let both = c.in_ok-both.ensures.value read ones.0 in
    (both.0, others.1 ∙ rw (both.1, ones.1, c.mask.ensures) refl)

pub returns-clause-makes : goal.returns-clause-makes
returns-clause-makes c = Makes-trans _ _ _ c.in_ok-both.ensures.makes (Makes-trans _ _ _ c.in_ok-ones.ensures.makes c.in_ok-others.ensures.makes)

pub make-requires-3-clause-fits : goal.make-requires-3-clause-fits
make-requires-3-clause-fits c =
    let both = c.in_ok-both.ensures in
    let ones = c.in_ok-ones.ensures in
    search (rules, laws)
