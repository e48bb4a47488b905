use Rattle.ap_net.proofs.Laws.{IsNet-Makes, Makes-trans}
use Rattle.ap_mul.proofs.Carries.{made_step}
use Rattle.ap_mul.proofs.product.make_step.Goals as goal

pub returns-clause-value : goal.returns-clause-value
returns-clause-value c = λ read s.
    let low = c.in_ok-low.ensures.value read s in
    let high = c.in_ok-high.ensures.value read low.0 in
    let lowest = c.in_ok-lowest.ensures.value read high.0 in
    let total = c.in_ok-total.ensures.value read lowest.0 in
    let addend = c.in_ok-addend.ensures.value read total.0 in
    let before = c.args.before in
    let sum = c.in_ok-total.total in (
      addend.0,
      made_step c.args.a.width (read c.args.a.number) (read before.high.number) (read before.low.number) (read c.in_ok-addend.addend.number) (read sum.sum.number) (read sum.carry.number) (read c.in_ok-lowest.lowest.number)
          (read c.in_ok-high.high.number) (read c.in_ok-low.low.number) sum.sum.width before.high.width before.low.width c.requires.low c.in_ok-total.ensures.sum.1 c.requires.before.high_width c.requires.before.low_width
          addend.1 total.1.0 total.1.1 lowest.1 high.1 low.1,
    )

pub returns-clause-makes : goal.returns-clause-makes
returns-clause-makes c =
    let sums = Makes-trans _ _ _ c.in_ok-addend.ensures.makes c.in_ok-total.ensures.makes in
    let moves = Makes-trans _ _ _ c.in_ok-high.ensures.makes c.in_ok-low.ensures.makes in
    Makes-trans _ _ _ sums (Makes-trans _ _ _ c.in_ok-lowest.ensures.makes moves)

pub moved_down-requires-2-clause-x : goal.moved_down-requires-2-clause-x
moved_down-requires-2-clause-x c =
    let to_sum = IsNet-Makes _ _ _ c.in_ok-total.ensures.makes (IsNet-Makes _ _ _ c.in_ok-addend.ensures.makes c.requires.before.low) in
    IsNet-Makes _ _ _ c.in_ok-high.ensures.makes (IsNet-Makes _ _ _ c.in_ok-lowest.ensures.makes to_sum)
