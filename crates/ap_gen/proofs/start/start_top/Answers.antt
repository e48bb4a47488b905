use Rattle.std.proofs.Common.{subst, sym}
use Rattle.ap_slow.specs.Placed.{HaveModules}
use Rattle.ap_parts.specs.Known.{known_by}
use Rattle.ap_gen.proofs.start.start_top.Goals as goal

pub make_control-requires-clause-modules : goal.make_control-requires-clause-modules
make_control-requires-clause-modules c =
    let parts = c.requires.parts in
    subst (λ places. HaveModules c.args.design.now c.as_slice-modules.result.now places) (sym c.as_slice-places.ensures)
    (subst (λ modules. HaveModules c.args.design.now modules c.args.parts.now.units) (sym c.as_slice-modules.ensures.value)
    (c.top_can_start.ensures.modules (known_by parts.cards) c.args.design.now c.args.parts.now.modules.items c.args.parts.now.units c.args.parts.now.kinds parts.known))

pub make_control-requires-clause-units : goal.make_control-requires-clause-units
make_control-requires-clause-units c =
    (c.top_can_start.ensures.leads c.args.design.now c.args.slots.now c.in_ok-lead.lead c.make_lead.new.out c.requires.slots c.in_ok-lead.ensures).units

pub make_control-requires-clause-valid : goal.make_control-requires-clause-valid
make_control-requires-clause-valid c =
    (c.top_can_start.ensures.leads c.args.design.now c.args.slots.now c.in_ok-lead.lead c.make_lead.new.out c.requires.slots c.in_ok-lead.ensures).valid
