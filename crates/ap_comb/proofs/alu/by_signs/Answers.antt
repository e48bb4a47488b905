use Rattle.std.proofs.Common.{◌∙◌, refl, rules}
use Rattle.ap_net.proofs.Laws.{Makes-trans, laws}
use Rattle.ap_comb.proofs.alu.by_signs.Goals as goal

pub returns-clause-value : goal.returns-clause-value
returns-clause-value c = λ read s.
    let less = c.in_ok-less.ensures.value read s in
    let differ = c.in_ok-differ.ensures.value read less.0 in
    (differ.0, less.1 ∙ rw differ.1 refl)

pub returns-clause-makes : goal.returns-clause-makes
returns-clause-makes c = Makes-trans _ _ _ c.in_ok-differ.ensures.makes c.in_ok-less.ensures.makes

pub make-requires-2-clause-fits : goal.make-requires-2-clause-fits
make-requires-2-clause-fits c = let d = c.in_ok-differ.ensures in search (rules, laws)
