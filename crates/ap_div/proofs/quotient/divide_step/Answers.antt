use Rattle.std.proofs.Common.{◌∙◌, ap}
use Rattle.ap_net.proofs.Laws.{Makes-trans}
use Rattle.ap_unit.specs.Stepping.{state_before}
use Rattle.ap_unit.proofs.Begun.{HoldsStepper-Makes}
use Rattle.ap_div.specs.Quotients.{quotient_step}
use Rattle.ap_div.proofs.quotient.divide_step.Goals as goal

pub state_before-requires-clause-unit : goal.state_before-requires-clause-unit
state_before-requires-clause-unit c = HoldsStepper-Makes _ _ _ c.in_ok-zero.ensures.makes c.requires.unit

pub returns-clause-step : goal.returns-clause-step
returns-clause-step c = λ read s.
    let next = c.in_ok-next.ensures.value read s in
    let before = c.in_ok-before.ensures.value read next.0 in
    let zero = c.in_ok-zero.ensures.value read before.0 in
    let unit = c.args.unit in
    let first = before.1 ∙ ap (λ n. state_before unit read (record { high = n; low = read unit.a.number })) zero.1 in
    next.1 ∙ (λ i. quotient_step (c.requires.unit.nets.b_width i) (read unit.b.number) (first i))

pub returns-clause-makes : goal.returns-clause-makes
returns-clause-makes c = Makes-trans _ _ _ c.in_ok-zero.ensures.makes (Makes-trans _ _ _ c.in_ok-before.ensures.makes c.in_ok-next.ensures.makes)
