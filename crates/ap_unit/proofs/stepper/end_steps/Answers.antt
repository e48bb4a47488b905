use Rattle.std.proofs.Common.{sym}
use Rattle.ap_net.proofs.Laws.{Makes-trans, IsNet-Makes}
use Rattle.ap_unit.proofs.Begun.{HoldsStepper-Makes, IsPair-Makes, are_registers}
use Rattle.ap_unit.proofs.Ended.{three_nexts, ended_names, ended_unit}
use Rattle.ap_unit.proofs.stepper.end_steps.Goals as goal

pub kept_state-requires-clause-unit : goal.kept_state-requires-clause-unit
kept_state-requires-clause-unit c = HoldsStepper-Makes _ _ _ c.in_ok-count.ensures.makes c.requires.unit

pub kept_state-requires-clause-next : goal.kept_state-requires-clause-next
kept_state-requires-clause-next c = IsPair-Makes _ _ _ _ c.in_ok-count.ensures.makes c.requires.next

pub next-requires-clause-fits : goal.next-requires-clause-fits
next-requires-clause-fits c =
    let makes = Makes-trans _ _ _ c.in_ok-count.ensures.makes c.in_ok-state.ensures.makes in
    let holds = HoldsStepper-Makes _ _ _ makes c.requires.unit in
    record {
      register = holds.nets.count;
      clocked = (are_registers _ _ holds).0;
      from = IsNet-Makes _ _ _ c.in_ok-state.ensures.makes c.in_ok-count.ensures.net.0;
      same = sym c.in_ok-count.ensures.net.1;
    }

pub returns-clause-names : goal.returns-clause-names
returns-clause-names c =
    let makes = Makes-trans _ _ _ c.in_ok-count.ensures.makes c.in_ok-state.ensures.makes in
    let is = three_nexts c.args.out.now c.kept_state.new.out c.next.new.self c.next-2.new.self c.next-3.new.self c.args.unit c.in_ok-count.count c.in_ok-state.state
    c.requires.unit makes c.in_ok-next.ensures.ok c.in_ok-next-2.ensures.ok c.in_ok-next-3.ensures.ok in
    ended_names c.args.out.now c.kept_state.new.out c.next-3.new.self c.args.unit c.in_ok-count.count c.in_ok-state.state c.requires.unit makes is

pub returns-clause-unit : goal.returns-clause-unit
returns-clause-unit c =
    let makes = Makes-trans _ _ _ c.in_ok-count.ensures.makes c.in_ok-state.ensures.makes in
    let is = three_nexts c.args.out.now c.kept_state.new.out c.next.new.self c.next-2.new.self c.next-3.new.self c.args.unit c.in_ok-count.count c.in_ok-state.state
    c.requires.unit makes c.in_ok-next.ensures.ok c.in_ok-next-2.ensures.ok c.in_ok-next-3.ensures.ok in
    ended_unit c.args.out.now c.kept_state.new.out c.next-3.new.self c.args.unit c.args.next c.in_ok-state.state c.in_ok-count.count c.requires.unit makes
    (λ read s. (c.in_ok-count.ensures.value read (c.in_ok-state.ensures.value read s).0).1) (λ read s. (c.in_ok-state.ensures.value read s).1) is c.rules.ensures
