use Rattle.std.proofs.Common.{◌∙◌, refl, rules}
use Rattle.ap_net.proofs.Laws.{Makes-trans, laws}
use Rattle.ap_comb.proofs.shift.limited.Goals as goal

pub returns-clause-value : goal.returns-clause-value
returns-clause-value c = λ read s.
    let chosen = c.in_ok-chosen.ensures.value read s in
    let far = c.in_ok-far.ensures.value read chosen.0 in
    let takes = c.in_ok-takes.ensures.value read far.0 in
    let turns = c.in_ok-turns.ensures.value read takes.0 in
    let within = c.in_ok-within.ensures.value read turns.0 in
    (within.0, chosen.1 ∙ rw (takes.1, far.1, turns.1, within.1) refl)

pub returns-clause-makes : goal.returns-clause-makes
returns-clause-makes c = Makes-trans _ _ _ c.in_ok-within.ensures.makes (Makes-trans _ _ _ c.in_ok-turns.ensures.makes (Makes-trans _ _ _ c.in_ok-takes.ensures.makes (Makes-trans _ _ _ c.in_ok-far.ensures.makes c.in_ok-chosen.ensures.makes)))

pub make-requires-clause-fits : goal.make-requires-clause-fits
make-requires-clause-fits c = let within' = c.in_ok-within.ensures in search (rules, laws)

pub make-requires-2-clause-fits : goal.make-requires-2-clause-fits
make-requires-2-clause-fits c = let within' = c.in_ok-within.ensures in let turns' = c.in_ok-turns.ensures in search (rules, laws)

pub repeated-requires-clause-bit : goal.repeated-requires-clause-bit
repeated-requires-clause-bit c = let within' = c.in_ok-within.ensures in let turns' = c.in_ok-turns.ensures in let takes' = c.in_ok-takes.ensures in search (rules, laws)

pub make-requires-3-clause-fits : goal.make-requires-3-clause-fits
make-requires-3-clause-fits c = let within' = c.in_ok-within.ensures in let turns' = c.in_ok-turns.ensures in let takes' = c.in_ok-takes.ensures in let far' = c.in_ok-far.ensures in search (rules, laws)
