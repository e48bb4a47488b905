use Rattle.std.proofs.Common.{◌∙◌, ◌+◌, ◌*◌, ◌^◌}
use Rattle.ap_net.proofs.Laws.{Makes-trans, Makes-refl}
use Rattle.ap_div.proofs.Differences.{moved_one}
use Rattle.ap_div.proofs.quotient.moved_up.Goals as goal

pub returns-then-x-eq1-clause-value : goal.returns-then-x-eq1-clause-value
returns-then-x-eq1-clause-value c = λ read s. (s, moved_one c.args.x.width (read c.args.x.number) (read c.args.lowest.number) c.if-x-eq1.true)

pub returns-then-x-eq1-clause-makes : goal.returns-then-x-eq1-clause-makes
returns-then-x-eq1-clause-makes c = Makes-refl _

pub returns-clause-value : goal.returns-clause-value
returns-clause-value c = λ read s.
    let moved = c.in_ok-moved.ensures.value read s in
    let lower = c.in_ok-lower.ensures.value read moved.0 in
    (lower.0, moved.1 ∙ (λ i. lower.1 i * 2 ^ c.requires.one_bit i + read c.args.lowest.number))

pub returns-clause-makes : goal.returns-clause-makes
returns-clause-makes c = Makes-trans _ _ _ c.in_ok-lower.ensures.makes c.in_ok-moved.ensures.makes
