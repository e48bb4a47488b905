use Rattle.std.proofs.Common.{[], ◌∷◌, sym, subst, refl}
use Rattle.ap_net.specs.Draft.{Draft, IsKept}
use Rattle.ap_net.specs.Modules.{ModuleText}
use Rattle.ap_net.specs.Finished.{IsFinished}
use Rattle.ap_net.specs.Wiring.{IsDriven}
use Rattle.circuit_tests.specs.Counter.{counter_draft, counter_by, counter_outside}
use Rattle.circuit_tests.proofs.Counting.{counter_ready, its_ports, looks, netlist}
use Rattle.circuit_tests.proofs.Tested.{IsDriven-are_driven}
use Rattle.circuit_tests.proofs.counter.counter.Goals as goal

pub finish-requires-clause-driven : goal.finish-requires-clause-driven
finish-requires-clause-driven c =
    let all : IsDriven counter_draft.nets counter_draft.assigns counter_draft.nexts counter_draft.instances = record {
      driven = c.ready_nets_are_driven.ensures counter_by counter_draft counter_ready;
      clocked = (IsDriven-are_driven counter_draft.nets counter_draft.assigns counter_draft.nexts refl).clocked;
    } in
    subst (λ (d : Draft). IsDriven d.nets d.assigns d.nexts d.instances) (sym c.in_ok-out.ensures) all

pub returns : goal.returns
returns c =
    let m : ModuleText = c.in_ok-top.top in
    let fin : IsFinished counter_draft m = subst (λ (d : Draft). IsFinished d m) c.in_ok-out.ensures c.in_ok-top.ensures in
    let kept : IsKept counter_draft = subst IsKept c.in_ok-out.ensures c.rules.ensures in
    c.ready_nets_run.ensures.runs counter_by counter_draft kept counter_ready m [] fin (netlist m fin c.rules-2.ensures) tt tt counter_outside (its_ports m fin c.rules-2.ensures) (looks m fin c.rules-2.ensures)
