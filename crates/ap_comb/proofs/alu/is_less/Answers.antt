use Rattle.std.proofs.Common.{◌∙◌, ◌<◌, ◌^◌, rules}
use Rattle.ap_net.proofs.Laws.{Makes-trans, laws}
use Rattle.ap_comb.proofs.Signs.{signs_tell}
use Rattle.ap_comb.proofs.alu.is_less.Goals as goal

pub returns-clause-value : goal.returns-clause-value
returns-clause-value c = λ read s.
    let less = c.in_ok-less.ensures.value read s in
    let below = c.in_ok-below.ensures.value read less.0 in
    let second = c.in_ok-second.ensures.value read below.0 in
    let first = c.in_ok-first.ensures.value read second.0 in
    let a_fits : read c.args.a.number < 2 ^ c.args.a.width = first.0.fits c.args.a.number c.args.a.width c.requires.operands.first.declared in
    let b_fits : read c.args.b.number < 2 ^ c.args.a.width = rw c.requires.operands.same at (first.0.fits c.args.b.number c.args.b.width c.requires.operands.second.declared) in
    (first.0, less.1 ∙ rw (first.1, second.1, below.1) (signs_tell c.args.a.width c.requires.operands.first.low (read c.args.a.number) (read c.args.b.number) a_fits b_fits))

pub returns-clause-makes : goal.returns-clause-makes
returns-clause-makes c = Makes-trans _ _ _ c.in_ok-first.ensures.makes (Makes-trans _ _ _ c.in_ok-second.ensures.makes (Makes-trans _ _ _ c.in_ok-below.ensures.makes c.in_ok-less.ensures.makes))

pub bit-requires-2-clause-x : goal.bit-requires-2-clause-x
bit-requires-2-clause-x c = let first' = c.in_ok-first.ensures in search (rules, laws)

pub make-requires-clause-fits : goal.make-requires-clause-fits
make-requires-clause-fits c = let first' = c.in_ok-first.ensures in let second' = c.in_ok-second.ensures in search (rules, laws)

pub by_signs-requires-clause-first : goal.by_signs-requires-clause-first
by_signs-requires-clause-first c = let first' = c.in_ok-first.ensures in let second' = c.in_ok-second.ensures in let below' = c.in_ok-below.ensures in search (rules, laws)

pub by_signs-requires-clause-second : goal.by_signs-requires-clause-second
by_signs-requires-clause-second c = let first' = c.in_ok-first.ensures in let second' = c.in_ok-second.ensures in let below' = c.in_ok-below.ensures in search (rules, laws)
