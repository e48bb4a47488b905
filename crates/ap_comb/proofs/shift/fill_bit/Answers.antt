use Rattle.std.proofs.Common.{◌∙◌, refl, rules}
use Rattle.ap_net.proofs.Laws.{Makes-trans, laws}
use Rattle.ap_comb.proofs.shift.fill_bit.Goals as goal

pub returns-clause-value : goal.returns-clause-value
returns-clause-value c = λ read s.
    let fill = c.in_ok-fill.ensures.value read s in
    let sign = c.in_ok-sign.ensures.value read fill.0 in
    (sign.0, fill.1 ∙ rw sign.1 refl)

pub returns-clause-makes : goal.returns-clause-makes
returns-clause-makes c = Makes-trans _ _ _ c.in_ok-sign.ensures.makes c.in_ok-fill.ensures.makes

pub make-requires-clause-fits : goal.make-requires-clause-fits
make-requires-clause-fits c = let sign' = c.in_ok-sign.ensures in search (rules, laws)
