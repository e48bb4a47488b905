use Rattle.std.proofs.Common.{ap, refl, sym, ◌∙◌}
use Rattle.std.specs.Prelude.{◌==◌, if◌then◌else◌}
use Rattle.ap_net.proofs.Laws.{Makes-trans}
use Rattle.ap_unit.specs.Stepping.{state_of}
use Rattle.ap_unit.proofs.Begun.{by_flag, IsPair-Makes}
use Rattle.ap_unit.proofs.stepper.state_before.Goals as goal

pub returns-clause-value : goal.returns-clause-value
returns-clause-value c = λ read s.
    let before = c.in_ok-before.ensures.value read s in
    let unstarted = c.in_ok-unstarted.ensures.value read before.0 in
    let zero = c.in_ok-zero.ensures.value read unstarted.0 in
    let first = state_of read c.args.first in
    let held = state_of read c.args.unit.held in
    let test = unstarted.1 ∙ ap (λ n. if read c.args.unit.count.number == n then 1 else 0) zero.1 in
    (zero.0, before.1 ∙ ap (λ n. if n == 1 then first else held) test ∙ by_flag (read c.args.unit.count.number == 0) first held)

pub returns-clause-makes : goal.returns-clause-makes
returns-clause-makes c = Makes-trans _ _ _ c.in_ok-zero.ensures.makes (Makes-trans _ _ _ c.in_ok-unstarted.ensures.makes c.in_ok-before.ensures.makes)

pub choose_state-requires-clause-first : goal.choose_state-requires-clause-first
choose_state-requires-clause-first c =
    let first = IsPair-Makes _ _ _ _ c.in_ok-unstarted.ensures.makes (IsPair-Makes _ _ _ _ c.in_ok-zero.ensures.makes c.requires.first) in
    record { high = first.high; low = first.low; high_width = refl; low_width = first.low_width ∙ sym first.high_width }
