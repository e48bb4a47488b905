use Rattle.std.proofs.Common.{inl, refl}
use Rattle.ap_stage.proofs.Wired.{wiring_fewer, wiring_same}
use Rattle.ap_effect.specs.Writers.{writer_numbers}
use Rattle.ap_effect.proofs.Acting.{unguarded}
use Rattle.ap_effect.proofs.Reading.{guard_among}
use Rattle.ap_effect.proofs.enable.acts.Goals as goal

pub returns-in-None-clause-tells : goal.returns-in-None-clause-tells
returns-in-None-clause-tells c = unguarded c.args.out.now c.args.writer c.in-None.is c.requires.writer.cond

pub returns-in-None-clause-wiring : goal.returns-in-None-clause-wiring
returns-in-None-clause-wiring c = wiring_same (writer_numbers c.args.writer) c.args.out.now c.args.writer.cond (inl refl)

pub returns-in_ok-acts-in-Some-clause-wiring : goal.returns-in_ok-acts-in-Some-clause-wiring
returns-in_ok-acts-in-Some-clause-wiring c = wiring_fewer (writer_numbers c.args.writer) _ _ _ c.in_ok-acts-in-Some.acts c.in_ok-acts-in-Some.ensures.wiring (inl refl, (guard_among c.args.writer c.in-Some.guard c.in-Some.is, tt))
