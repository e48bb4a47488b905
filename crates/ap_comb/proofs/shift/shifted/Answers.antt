use Rattle.std.proofs.Common.{◌∙◌, ◌≤◌, arith, rules}
use Rattle.std.proofs.lemmas.Nat.{pow_pos}
use Rattle.ap_net.proofs.Laws.{Makes-trans, laws}
use Rattle.ap_comb.proofs.BitCounts.{count_below}
use Rattle.ap_comb.proofs.Shifted.{shown_is}
use Rattle.ap_comb.proofs.shift.shifted.Goals as goal

pub returns-clause-value : goal.returns-clause-value
returns-clause-value c = λ read s.
    let shifted = c.in_ok-limited.ensures.value read s in
    let near = c.in_ok-near.ensures.value read shifted.0 in
    let control = c.in_ok-control.ensures.value read near.0 in
    let some : 1 ≤ c.args.a.width = omega (arith, c.requires.width, pow_pos c.args.count) in (
      control.0,
      λ op at. shifted.1 ∙ rw (near.1, c.in_ok-near.ensures.net.1, control.1.0, control.1.1, control.1.2, ← c.requires.width)
          (shown_is (read c.args.sel.number) op c.args.a.width (read c.args.a.number) (read c.args.b.number) at some (control.0.fits _ _ c.requires.operands.first.declared)),
    )

pub returns-clause-makes : goal.returns-clause-makes
returns-clause-makes c = Makes-trans _ _ _ c.in_ok-control.ensures.makes (Makes-trans _ _ _ c.in_ok-near.ensures.makes c.in_ok-limited.ensures.makes)

pub shift_near-requires-clause-bits : goal.shift_near-requires-clause-bits
shift_near-requires-clause-bits c = omega (arith, count_below c.args.count)

pub limited-requires-clause-bits : goal.limited-requires-clause-bits
limited-requires-clause-bits c = omega (arith, count_below c.args.count)

pub shift_near-requires-clause-a : goal.shift_near-requires-clause-a
shift_near-requires-clause-a c = let control' = c.in_ok-control.ensures in search (rules, laws)

pub shift_near-requires-clause-b : goal.shift_near-requires-clause-b
shift_near-requires-clause-b c = let control' = c.in_ok-control.ensures in search (rules, laws)

pub limited-requires-clause-low : goal.limited-requires-clause-low
limited-requires-clause-low c = let control' = c.in_ok-control.ensures in let near' = c.in_ok-near.ensures in search (rules, laws)

pub limited-requires-clause-high : goal.limited-requires-clause-high
limited-requires-clause-high c = let control' = c.in_ok-control.ensures in let near' = c.in_ok-near.ensures in search (rules, laws)

pub limited-requires-clause-fill : goal.limited-requires-clause-fill
limited-requires-clause-fill c = let control' = c.in_ok-control.ensures in let near' = c.in_ok-near.ensures in search (rules, laws)

pub limited-requires-clause-b : goal.limited-requires-clause-b
limited-requires-clause-b c = let control' = c.in_ok-control.ensures in let near' = c.in_ok-near.ensures in search (rules, laws)
