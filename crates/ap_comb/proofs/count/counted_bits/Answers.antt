use Rattle.std.proofs.Common.{◌∙◌, refl, rules}
use Rattle.ap_net.proofs.Laws.{Makes-trans, laws}
use Rattle.ap_comb.proofs.count.counted_bits.Goals as goal

pub returns-clause-value : goal.returns-clause-value
returns-clause-value c = λ read s.
    let chosen = c.in_ok-chosen.ensures.value read s in
    let above = c.in_ok-above.ensures.value read chosen.0 in
    let run = c.in_ok-run.ensures.value read above.0 in
    (run.0, chosen.1 ∙ rw (above.1, run.1) refl)

pub returns-clause-makes : goal.returns-clause-makes
returns-clause-makes c = Makes-trans _ _ _ c.in_ok-run.ensures.makes (Makes-trans _ _ _ c.in_ok-above.ensures.makes c.in_ok-chosen.ensures.makes)

pub make-requires-2-clause-fits : goal.make-requires-2-clause-fits
make-requires-2-clause-fits c = let run' = c.in_ok-run.ensures in let above' = c.in_ok-above.ensures in search (rules, laws)
