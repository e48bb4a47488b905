use Rattle.std.proofs.Common.{◌∙◌}
use Rattle.std.specs.Prelude.{◌==◌, if◌then◌else◌}
use Rattle.ap_net.proofs.Laws.{Makes-trans}
use Rattle.ap_mul.proofs.sum.carry_of.Goals as goal

pub returns-clause-value : goal.returns-clause-value
returns-clause-value c = λ read s.
    let carry = c.in_ok-carry.ensures.value read s in
    let either = c.in_ok-either.ensures.value read carry.0 in
    let both = c.in_ok-both.ensures.value read either.0 in
    (both.0, carry.1 ∙ (λ i. if read c.args.sum.number == 1 then both.1 i else either.1 i))

pub returns-clause-makes : goal.returns-clause-makes
returns-clause-makes c = Makes-trans _ _ _ c.in_ok-both.ensures.makes (Makes-trans _ _ _ c.in_ok-either.ensures.makes c.in_ok-carry.ensures.makes)
