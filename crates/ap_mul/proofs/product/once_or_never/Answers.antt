use Rattle.std.proofs.Common.{◌∙◌}
use Rattle.std.specs.Prelude.{◌==◌, if◌then◌else◌}
use Rattle.ap_net.proofs.Laws.{Makes-trans}
use Rattle.ap_mul.proofs.Carries.{once}
use Rattle.ap_mul.proofs.product.once_or_never.Goals as goal

pub returns-clause-value : goal.returns-clause-value
returns-clause-value c = λ read s.
    let addend = c.in_ok-addend.ensures.value read s in
    let zero = c.in_ok-zero.ensures.value read addend.0 in
    let lowest = c.in_ok-lowest.ensures.value read zero.0 in
    let a = read c.args.a.number in
    (lowest.0, addend.1 ∙ (λ i. if lowest.1 i == 1 then a else zero.1 i) ∙ once (read c.args.x.number) a)

pub returns-clause-makes : goal.returns-clause-makes
returns-clause-makes c = Makes-trans _ _ _ c.in_ok-lowest.ensures.makes (Makes-trans _ _ _ c.in_ok-zero.ensures.makes c.in_ok-addend.ensures.makes)
