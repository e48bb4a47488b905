use Rattle.std.specs.Prelude.{◌==◌}
use Rattle.ap_net.proofs.Laws.{Makes-trans}
use Rattle.ap_unit.proofs.Begun.{chosen_state}
use Rattle.ap_unit.proofs.stepper.choose_state.Goals as goal

pub returns-clause-value : goal.returns-clause-value
returns-clause-value c = λ read s.
    let low = c.in_ok-low.ensures.value read s in
    let high = c.in_ok-high.ensures.value read low.0 in
    let first = c.args.first in
    let other = c.args.other in
    (high.0, chosen_state (read c.args.bit.number == 1) (read first.high.number) (read first.low.number) (read other.high.number) (read other.low.number) _ _ high.1 low.1)

pub returns-clause-makes : goal.returns-clause-makes
returns-clause-makes c = Makes-trans _ _ _ c.in_ok-high.ensures.makes c.in_ok-low.ensures.makes
