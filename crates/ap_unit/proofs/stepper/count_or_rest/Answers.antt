use Rattle.std.proofs.Common.{ap, ◌∙◌}
use Rattle.std.specs.Prelude.{◌==◌, if◌then◌else◌}
use Rattle.ap_net.proofs.Laws.{Makes-trans}
use Rattle.ap_unit.proofs.stepper.count_or_rest.Goals as goal

pub returns-clause-value : goal.returns-clause-value
returns-clause-value c = λ read s.
    let next = c.in_ok-next.ensures.value read s in
    let asked = c.in_ok-asked.ensures.value read next.0 in
    let zero = c.in_ok-zero.ensures.value read asked.0 in
    let unit = c.args.unit in
    let more = asked.1 ∙ ap (λ n. if read unit.go.number == 1 then read c.args.more.number else n) zero.1 in
    (zero.0, next.1 ∙ (λ i. if read unit.adv.number == 1 then zero.1 i else more i))

pub returns-clause-makes : goal.returns-clause-makes
returns-clause-makes c = Makes-trans _ _ _ c.in_ok-zero.ensures.makes (Makes-trans _ _ _ c.in_ok-asked.ensures.makes c.in_ok-next.ensures.makes)
