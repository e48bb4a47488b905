use Rattle.std.proofs.Common.{◌∙◌, ap, position, subst, sym}
use Rattle.ap_desc.specs.declared.fault.Fault.TheVariants as f
use Rattle.ap_ports.specs.Elsewhere.{IsAstray}
use Rattle.ap_ports.specs.Firsts.{IsBack, IsFirst, IsTwice, LineAt, is_early, is_zero}
use Rattle.ap_ports.specs.Numbered.{AreNumbered}
use Rattle.ap_ports.proofs.LinePlaces.{first_passing, of_kind}
use Rattle.ap_ports.proofs.Numbered.{contained_numbered}
use Rattle.ap_ports.proofs.places.first_place.Goals as goal

pub first_twice-requires : goal.first_twice-requires
first_twice-requires c = subst AreNumbered (sym c.as_slice-micros.ensures) (contained_numbered c.args.design.now c.requires.sound c.args.instr.now c.requires.instr)

pub first_astray-requires-clause-numbered : goal.first_astray-requires-clause-numbered
first_astray-requires-clause-numbered c = subst AreNumbered (sym c.as_slice-micros.ensures) (contained_numbered c.args.design.now c.requires.sound c.args.instr.now c.requires.instr)

pub returns-in-TwiceInInstruction : goal.returns-in-TwiceInInstruction
returns-in-TwiceInInstruction c =
    of_kind c.args.design.now c.args.instr.now c.args.kind f.TwiceInInstruction c.first_twice.result c.in-TwiceInInstruction.is
    (subst (λ ms. IsFirst (IsTwice ms) c.first_twice.result) c.as_slice-micros.ensures c.first_twice.ensures)

pub returns-in-TwoStages : goal.returns-in-TwoStages
returns-in-TwoStages c =
    of_kind c.args.design.now c.args.instr.now c.args.kind f.TwoStages c.first_astray.result c.in-TwoStages.is
    (subst (λ ms. IsFirst (λ place. LineAt ms place (IsAstray c.args.design.now)) c.first_astray.result) c.as_slice-micros.ensures c.first_astray.ensures)

pub returns-in-StageZero : goal.returns-in-StageZero
returns-in-StageZero c =
    of_kind c.args.design.now c.args.instr.now c.args.kind f.StageZero c.first_zero.result c.in-StageZero.is
    (first_passing is_zero c.args.instr.now.micros c.first_zero.result (ap (position is_zero) (sym c.as_slice-micros.ensures) ∙ sym c.first_zero.ensures))

pub returns-in-StageOrder : goal.returns-in-StageOrder
returns-in-StageOrder c =
    of_kind c.args.design.now c.args.instr.now c.args.kind f.StageOrder c.first_back.result c.in-StageOrder.is
    (subst (λ ms. IsFirst (IsBack ms) c.first_back.result) c.as_slice-micros.ensures c.first_back.ensures)

pub returns-in-EarlyCommit : goal.returns-in-EarlyCommit
returns-in-EarlyCommit c =
    of_kind c.args.design.now c.args.instr.now c.args.kind f.EarlyCommit c.first_early.result c.in-EarlyCommit.is
    (first_passing (is_early c.args.design.now) c.args.instr.now.micros c.first_early.result (ap (position (is_early c.args.design.now)) (sym c.as_slice-micros.ensures) ∙ sym c.first_early.ensures))

pub returns-in-UnstableOperand : goal.returns-in-UnstableOperand
returns-in-UnstableOperand c =
    of_kind c.args.design.now c.args.instr.now c.args.kind f.UnstableOperand c.first_unsteady.result c.in-UnstableOperand.is c.first_unsteady.ensures
