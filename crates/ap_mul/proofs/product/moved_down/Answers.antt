use Rattle.std.proofs.Common.{◌∙◌, ◌+◌, ◌*◌, ◌^◌}
use Rattle.ap_net.proofs.Laws.{Makes-trans, Makes-refl}
use Rattle.ap_mul.proofs.Carries.{moved_one}
use Rattle.ap_mul.proofs.product.moved_down.Goals as goal

pub returns-then-x-eq1-clause-value : goal.returns-then-x-eq1-clause-value
returns-then-x-eq1-clause-value c = λ read s.
    let x = c.args.x in
    (s, moved_one x.width (read x.number) (read c.args.top.number) c.if-x-eq1.true (s.fits x.number x.width c.requires.x.declared))

pub returns-then-x-eq1-clause-makes : goal.returns-then-x-eq1-clause-makes
returns-then-x-eq1-clause-makes c = Makes-refl _

pub returns-clause-value : goal.returns-clause-value
returns-clause-value c = λ read s.
    let moved = c.in_ok-moved.ensures.value read s in
    let upper = c.in_ok-upper.ensures.value read moved.0 in
    let width = c.in_ok-upper.ensures.net.1 in
    (upper.0, moved.1 ∙ (λ i. read c.args.top.number * 2 ^ width i + upper.1 i))

pub returns-clause-makes : goal.returns-clause-makes
returns-clause-makes c = Makes-trans _ _ _ c.in_ok-upper.ensures.makes c.in_ok-moved.ensures.makes
