use Rattle.std.proofs.Common.{◌∙◌, refl}
use Rattle.ap_net.proofs.Laws.{Makes-trans}
use Rattle.ap_top.proofs.machine.make_enable.Goals as goal

pub returns-clause-value : goal.returns-clause-value
returns-clause-value c = λ read s.
    let three = c.in_ok-enable.ensures.value read s in
    let two = c.in_ok-hit.ensures.value read three.0 in
    let one = c.in_ok-wanted.ensures.value read two.0 in
    (one.0, three.1 ∙ rw (two.1, one.1) refl)

pub returns-clause-makes : goal.returns-clause-makes
returns-clause-makes c = Makes-trans _ _ _ c.in_ok-wanted.ensures.makes (Makes-trans _ _ _ c.in_ok-hit.ensures.makes c.in_ok-enable.ensures.makes)
