use Rattle.std.proofs.Common.{sym, subst}
use Rattle.std.specs.Prelude.{codes}
use Rattle.std.specs.List.{AllByRecursion as Each}
use Rattle.ap_net.specs.Draft.{CanFresh, Draft}
use Rattle.ap_flight.specs.Planned.{IsNewIn, stages_plan}
use Rattle.flight_tests.proofs.NewNames.{fresh_in_blank, stages_new}
use Rattle.flight_tests.proofs.declare_tests.registers_of.Goals as goal

pub declare_stages-requires-clause-new : goal.declare_stages-requires-clause-new
declare_stages-requires-clause-new c =
    subst (λ (d : Draft). Each (IsNewIn d) (stages_plan c.args.design.now 1 c.in_ok-slots.slots.stages)) (sym c.in_ok-out.ensures) (stages_new (codes "flights") c.args.design.now 1 c.in_ok-slots.slots.stages)

pub declare_stages-requires-clause-fresh : goal.declare_stages-requires-clause-fresh
declare_stages-requires-clause-fresh c = subst CanFresh (sym c.in_ok-out.ensures) (fresh_in_blank (codes "flights"))
