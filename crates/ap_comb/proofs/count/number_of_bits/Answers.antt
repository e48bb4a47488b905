use Rattle.std.proofs.Common.{◌∙◌}
use Rattle.ap_net.proofs.Laws.{Makes-trans}
use Rattle.ap_comb.proofs.BitCounts.{counted}
use Rattle.ap_comb.proofs.count.number_of_bits.Goals as goal

pub returns-clause-value : goal.returns-clause-value
returns-clause-value c = λ read s.
    let number = c.in_ok-number.ensures.value read s in
    let bits = c.in_ok-counted.ensures.value read number.0 in
    (bits.0, λ op at. number.1 ∙ rw (bits.1, c.in_ok-counted.ensures.net.1) (counted c.args.a.width (read c.args.a.number) (read c.args.sel.number) op at))

pub returns-clause-makes : goal.returns-clause-makes
returns-clause-makes c = Makes-trans _ _ _ c.in_ok-counted.ensures.makes c.in_ok-number.ensures.makes
