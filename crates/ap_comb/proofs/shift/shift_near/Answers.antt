use Rattle.std.proofs.Common.{◌∙◌, refl, rules}
use Rattle.ap_net.proofs.Laws.{Makes-trans, laws}
use Rattle.ap_comb.proofs.shift.shift_near.Goals as goal

pub returns-clause-value : goal.returns-clause-value
returns-clause-value c = λ read s.
    let chosen = c.in_ok-chosen.ensures.value read s in
    let is_right = c.in_ok-is_right.ensures.value read chosen.0 in
    let right = c.in_ok-right.ensures.value read is_right.0 in
    let left = c.in_ok-left.ensures.value read right.0 in
    (left.0, chosen.1 ∙ rw (is_right.1, right.1, left.1) refl)

pub returns-clause-makes : goal.returns-clause-makes
returns-clause-makes c = Makes-trans _ _ _ c.in_ok-left.ensures.makes (Makes-trans _ _ _ c.in_ok-right.ensures.makes (Makes-trans _ _ _ c.in_ok-is_right.ensures.makes c.in_ok-chosen.ensures.makes))

pub shift_by_levels-requires-2-clause-x : goal.shift_by_levels-requires-2-clause-x
shift_by_levels-requires-2-clause-x c = let left' = c.in_ok-left.ensures in search (rules, laws)

pub shift_by_levels-requires-2-clause-way : goal.shift_by_levels-requires-2-clause-way
shift_by_levels-requires-2-clause-way c = let left' = c.in_ok-left.ensures in search (rules, laws)

pub shift_by_levels-requires-2-clause-by : goal.shift_by_levels-requires-2-clause-by
shift_by_levels-requires-2-clause-by c = let left' = c.in_ok-left.ensures in search (rules, laws)

pub make-requires-clause-fits : goal.make-requires-clause-fits
make-requires-clause-fits c = let left' = c.in_ok-left.ensures in let right' = c.in_ok-right.ensures in search (rules, laws)

pub make-requires-2-clause-fits : goal.make-requires-2-clause-fits
make-requires-2-clause-fits c = let left' = c.in_ok-left.ensures in let right' = c.in_ok-right.ensures in let is_right' = c.in_ok-is_right.ensures in search (rules, laws)
