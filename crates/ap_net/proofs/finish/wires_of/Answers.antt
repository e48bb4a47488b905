use Rattle.std.proofs.Common.{◌∙◌, sym}
use Rattle.ap_net.specs.declared.net.ModuleNet.{ModuleNet}
use Rattle.ap_net.specs.Modules.{wire_by}
use Rattle.ap_net.proofs.Steps.{some_more, none_more}
use Rattle.ap_net.proofs.finish.wires_of.Goals as goal
use Rattle.ap_net.proofs.finish.wires_of.Goals.{in-Some+in_ok-push, in_default}

pub loop-net-preserved : goal.loop-net-preserved
loop-net-preserved c =
    elim c.match-branch-2.branch [
      | in-Some+in_ok-push w ↦ rw (w.wires-is, w.in_ok-push.ensures.items) (some_more (λ (net : ModuleNet). wire_by net.role net) c.args.nets.now c.loop-net.net-index c.net-item.result _ _ c.loop-net-test.true c.net-item.is (sym c.in_ok-wire.ensures ∙ w.in-Some.is) c.loop-net.invariant)
      | in_default w ↦ rw w.wires-is (none_more (λ (net : ModuleNet). wire_by net.role net) c.args.nets.now c.loop-net.net-index c.net-item.result _ c.loop-net-test.true c.net-item.is (sym c.in_ok-wire.ensures ∙ w.in_default.is) c.loop-net.invariant)
    ]
