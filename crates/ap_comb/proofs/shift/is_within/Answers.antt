use Rattle.std.proofs.Common.{◌∙◌, ◌^◌, ap, Bool, ℕ, rules}
use Rattle.std.specs.Prelude.{if◌then◌else◌}
use Rattle.std.proofs.lemmas.Nat.{pow_pos}
use Rattle.ap_net.proofs.Laws.{Makes-trans, laws}
use Rattle.ap_comb.proofs.Shifted.{within_test}
use Rattle.ap_comb.proofs.shift.is_within.Goals as goal

abbrev flag : Bool → ℕ
flag t = if t then 1 else 0

pub returns-clause-value : goal.returns-clause-value
returns-clause-value c = λ read s.
    let within = c.in_ok-within.ensures.value read s in
    let zero = c.in_ok-zero.ensures.value read within.0 in
    let beyond = c.in_ok-beyond.ensures.value read zero.0 in
    (beyond.0, within.1 ∙ rw (beyond.1, zero.1) (ap flag (within_test (read c.args.shift.number) (2 ^ c.args.count) (pow_pos c.args.count))))

pub returns-clause-makes : goal.returns-clause-makes
returns-clause-makes c = Makes-trans _ _ _ c.in_ok-beyond.ensures.makes (Makes-trans _ _ _ c.in_ok-zero.ensures.makes c.in_ok-within.ensures.makes)

pub make-requires-2-clause-fits : goal.make-requires-2-clause-fits
make-requires-2-clause-fits c = let beyond' = c.in_ok-beyond.ensures in let zero' = c.in_ok-zero.ensures in search (rules, laws)
