use Rattle.ap_net.proofs.Laws.{Makes-trans}
use Rattle.ap_div.proofs.difference.difference_with_cover.Goals as goal

pub returns-clause-value : goal.returns-clause-value
returns-clause-value c = λ read s.
    let covers = c.in_ok-covers.ensures.value read s in
    let difference = c.in_ok-difference.ensures.value read covers.0 in
    (difference.0, (difference.1, covers.1 difference.1))

pub returns-clause-makes : goal.returns-clause-makes
returns-clause-makes c = Makes-trans _ _ _ c.in_ok-difference.ensures.makes c.in_ok-covers.ensures.makes
