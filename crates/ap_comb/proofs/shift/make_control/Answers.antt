use Rattle.std.proofs.Common.{◌∙◌, refl, rules}
use Rattle.ap_net.proofs.Laws.{Makes-trans, laws}
use Rattle.ap_comb.proofs.shift.make_control.Goals as goal

pub returns-clause-value : goal.returns-clause-value
returns-clause-value c = λ read s.
    let fill = c.in_ok-fill.ensures.value read s in
    let high = c.in_ok-high.ensures.value read fill.0 in
    let low = c.in_ok-low.ensures.value read high.0 in
    (low.0, (low.1, high.1, fill.1 ∙ rw high.1 refl))

pub returns-clause-makes : goal.returns-clause-makes
returns-clause-makes c = Makes-trans _ _ _ c.in_ok-low.ensures.makes (Makes-trans _ _ _ c.in_ok-high.ensures.makes c.in_ok-fill.ensures.makes)

pub bit-requires-2-clause-x : goal.bit-requires-2-clause-x
bit-requires-2-clause-x c = let low' = c.in_ok-low.ensures in search (rules, laws)

pub fill_bit-requires-clause-a : goal.fill_bit-requires-clause-a
fill_bit-requires-clause-a c = let low' = c.in_ok-low.ensures in let high' = c.in_ok-high.ensures in search (rules, laws)

pub returns-clause-low : goal.returns-clause-low
returns-clause-low c = let low' = c.in_ok-low.ensures in let high' = c.in_ok-high.ensures in let fill' = c.in_ok-fill.ensures in search (rules, laws)

pub returns-clause-high : goal.returns-clause-high
returns-clause-high c = let low' = c.in_ok-low.ensures in let high' = c.in_ok-high.ensures in let fill' = c.in_ok-fill.ensures in search (rules, laws)
