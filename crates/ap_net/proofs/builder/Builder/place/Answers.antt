use Rattle.std.proofs.Common.{◌≡◌, ℕ, ◌++◌, ◌∷◌, [], List, length, map, refl, sym, ap, subst, ◌∙◌}
use Rattle.ap_net.specs.declared.net.Port.{Port}
use Rattle.ap_net.specs.declared.net.Instance.{Instance}
use Rattle.ap_net.specs.Names.{IsNew, IsNotNumbered}
use Rattle.ap_net.specs.Wiring.{IsWired, IsConnected}
use Rattle.ap_net.specs.Modules.{ModuleText, outputs, instance_of}
use Rattle.ap_net.specs.Draft.{Draft, CanFresh, names_of, wire_count}
use Rattle.ap_net.specs.Placing.{output_widths, wires_from, fresh_nets, merged, output_wires, placed_instance, with_placed}
use Rattle.ap_net.proofs.Lists.{get_end}
use Rattle.ap_net.proofs.Among.{ports_within}
use Rattle.ap_net.proofs.LateSteps.{Joins-placed}
use Rattle.ap_net.proofs.Placing.{length-wires_from, wires_from-IsNet, outputs_bounded, placed-widths, placed-nets, placed-free, placed-undriven, placed-unjoined, placed-apart, placed-Adds, placed-Closes, placed-ports, Places-placed}
use Rattle.ap_net.proofs.builder.Builder.place.Goals as goal

pub fresh_outputs-requires-clause-widths : goal.fresh_outputs-requires-clause-widths
fresh_outputs-requires-clause-widths c = rw c.ports.ensures (ports_within c.args.whole.now c.rules.ensures.wired.widths)

pub connected-requires-clause-outputs : goal.connected-requires-clause-outputs
connected-requires-clause-outputs c =
    ap length (c.as_slice.ensures ∙ c.in_ok-outputs.ensures.outputs) ∙ length-wires_from (length c.args.self.now.nets) (output_widths c.ports.result.now) ∙ ap (λ (ps : List Port). length (output_widths ps)) (c.ports.ensures ∙ sym c.ports-2.ensures)

pub instance-requires-clause-widths : goal.instance-requires-clause-widths
instance-requires-clause-widths c =
    let d : Draft = c.args.self.now in
    let m : ModuleText = c.args.whole.now in
    let wired : IsWired d.nets d.assigns d.nexts = rw (← c.self.view_is) c.self.invariant.wired in
    let joined : IsConnected d.nets d.assigns d.instances = rw (← c.self.view_is) c.self.invariant.connected in
    let mid : c.fresh_outputs.new.self ≡ record d { nets = d.nets ++ fresh_nets (wire_count d.nets) (output_widths m.ports) } =
    c.in_ok-outputs.ensures.ok ∙ ap (λ (ps : List Port). record d { nets = d.nets ++ fresh_nets (wire_count d.nets) (output_widths ps) }) c.ports.ensures in
    let outs : c.as_slice.result.now ≡ output_wires (length d.nets) m = c.as_slice.ensures ∙ c.in_ok-outputs.ensures.outputs ∙ ap (λ (ps : List Port). wires_from (length d.nets) (output_widths ps)) c.ports.ensures in
    let nets : c.deref.result.now ≡ merged (outputs m) c.args.inputs.now (output_wires (length d.nets) m) =
    c.deref.ensures.value ∙ c.in_ok-nets.ensures ∙ (λ j. merged (map (λ (p : Port). p.output) (c.ports-2.ensures j)) c.args.inputs.now (outs j)) in
    rw nets (placed-widths (length d.nets) m c.args.inputs.now c.requires.widths)

pub instance-requires-clause-nets : goal.instance-requires-clause-nets
instance-requires-clause-nets c =
    let d : Draft = c.args.self.now in
    let m : ModuleText = c.args.whole.now in
    let wired : IsWired d.nets d.assigns d.nexts = rw (← c.self.view_is) c.self.invariant.wired in
    let joined : IsConnected d.nets d.assigns d.instances = rw (← c.self.view_is) c.self.invariant.connected in
    let mid : c.fresh_outputs.new.self ≡ record d { nets = d.nets ++ fresh_nets (wire_count d.nets) (output_widths m.ports) } =
    c.in_ok-outputs.ensures.ok ∙ ap (λ (ps : List Port). record d { nets = d.nets ++ fresh_nets (wire_count d.nets) (output_widths ps) }) c.ports.ensures in
    let outs : c.as_slice.result.now ≡ output_wires (length d.nets) m = c.as_slice.ensures ∙ c.in_ok-outputs.ensures.outputs ∙ ap (λ (ps : List Port). wires_from (length d.nets) (output_widths ps)) c.ports.ensures in
    let nets : c.deref.result.now ≡ merged (outputs m) c.args.inputs.now (output_wires (length d.nets) m) =
    c.deref.ensures.value ∙ c.in_ok-nets.ensures ∙ (λ j. merged (map (λ (p : Port). p.output) (c.ports-2.ensures j)) c.args.inputs.now (outs j)) in
    rw (mid, nets) (placed-nets d c.args.name.now m c.args.inputs.now wired joined c.requires.widths c.requires.nets (ports_within c.args.whole.now c.rules.ensures.wired.widths))

pub instance-requires-clause-free : goal.instance-requires-clause-free
instance-requires-clause-free c =
    let d : Draft = c.args.self.now in
    let m : ModuleText = c.args.whole.now in
    let wired : IsWired d.nets d.assigns d.nexts = rw (← c.self.view_is) c.self.invariant.wired in
    let joined : IsConnected d.nets d.assigns d.instances = rw (← c.self.view_is) c.self.invariant.connected in
    let mid : c.fresh_outputs.new.self ≡ record d { nets = d.nets ++ fresh_nets (wire_count d.nets) (output_widths m.ports) } =
    c.in_ok-outputs.ensures.ok ∙ ap (λ (ps : List Port). record d { nets = d.nets ++ fresh_nets (wire_count d.nets) (output_widths ps) }) c.ports.ensures in
    let outs : c.as_slice.result.now ≡ output_wires (length d.nets) m = c.as_slice.ensures ∙ c.in_ok-outputs.ensures.outputs ∙ ap (λ (ps : List Port). wires_from (length d.nets) (output_widths ps)) c.ports.ensures in
    let nets : c.deref.result.now ≡ merged (outputs m) c.args.inputs.now (output_wires (length d.nets) m) =
    c.deref.ensures.value ∙ c.in_ok-nets.ensures ∙ (λ j. merged (map (λ (p : Port). p.output) (c.ports-2.ensures j)) c.args.inputs.now (outs j)) in
    rw (mid, nets) (placed-free d c.args.name.now m c.args.inputs.now wired joined c.requires.widths c.requires.nets)

pub instance-requires-clause-undriven : goal.instance-requires-clause-undriven
instance-requires-clause-undriven c =
    let d : Draft = c.args.self.now in
    let m : ModuleText = c.args.whole.now in
    let wired : IsWired d.nets d.assigns d.nexts = rw (← c.self.view_is) c.self.invariant.wired in
    let joined : IsConnected d.nets d.assigns d.instances = rw (← c.self.view_is) c.self.invariant.connected in
    let mid : c.fresh_outputs.new.self ≡ record d { nets = d.nets ++ fresh_nets (wire_count d.nets) (output_widths m.ports) } =
    c.in_ok-outputs.ensures.ok ∙ ap (λ (ps : List Port). record d { nets = d.nets ++ fresh_nets (wire_count d.nets) (output_widths ps) }) c.ports.ensures in
    let outs : c.as_slice.result.now ≡ output_wires (length d.nets) m = c.as_slice.ensures ∙ c.in_ok-outputs.ensures.outputs ∙ ap (λ (ps : List Port). wires_from (length d.nets) (output_widths ps)) c.ports.ensures in
    let nets : c.deref.result.now ≡ merged (outputs m) c.args.inputs.now (output_wires (length d.nets) m) =
    c.deref.ensures.value ∙ c.in_ok-nets.ensures ∙ (λ j. merged (map (λ (p : Port). p.output) (c.ports-2.ensures j)) c.args.inputs.now (outs j)) in
    rw (mid, nets) (placed-undriven d c.args.name.now m c.args.inputs.now wired joined c.requires.widths c.requires.nets)

pub instance-requires-clause-unjoined : goal.instance-requires-clause-unjoined
instance-requires-clause-unjoined c =
    let d : Draft = c.args.self.now in
    let m : ModuleText = c.args.whole.now in
    let wired : IsWired d.nets d.assigns d.nexts = rw (← c.self.view_is) c.self.invariant.wired in
    let joined : IsConnected d.nets d.assigns d.instances = rw (← c.self.view_is) c.self.invariant.connected in
    let mid : c.fresh_outputs.new.self ≡ record d { nets = d.nets ++ fresh_nets (wire_count d.nets) (output_widths m.ports) } =
    c.in_ok-outputs.ensures.ok ∙ ap (λ (ps : List Port). record d { nets = d.nets ++ fresh_nets (wire_count d.nets) (output_widths ps) }) c.ports.ensures in
    let outs : c.as_slice.result.now ≡ output_wires (length d.nets) m = c.as_slice.ensures ∙ c.in_ok-outputs.ensures.outputs ∙ ap (λ (ps : List Port). wires_from (length d.nets) (output_widths ps)) c.ports.ensures in
    let nets : c.deref.result.now ≡ merged (outputs m) c.args.inputs.now (output_wires (length d.nets) m) =
    c.deref.ensures.value ∙ c.in_ok-nets.ensures ∙ (λ j. merged (map (λ (p : Port). p.output) (c.ports-2.ensures j)) c.args.inputs.now (outs j)) in
    rw (mid, nets) (placed-unjoined d c.args.name.now m c.args.inputs.now wired joined c.requires.widths c.requires.nets)

pub instance-requires-clause-apart : goal.instance-requires-clause-apart
instance-requires-clause-apart c =
    let d : Draft = c.args.self.now in
    let m : ModuleText = c.args.whole.now in
    let wired : IsWired d.nets d.assigns d.nexts = rw (← c.self.view_is) c.self.invariant.wired in
    let joined : IsConnected d.nets d.assigns d.instances = rw (← c.self.view_is) c.self.invariant.connected in
    let mid : c.fresh_outputs.new.self ≡ record d { nets = d.nets ++ fresh_nets (wire_count d.nets) (output_widths m.ports) } =
    c.in_ok-outputs.ensures.ok ∙ ap (λ (ps : List Port). record d { nets = d.nets ++ fresh_nets (wire_count d.nets) (output_widths ps) }) c.ports.ensures in
    let outs : c.as_slice.result.now ≡ output_wires (length d.nets) m = c.as_slice.ensures ∙ c.in_ok-outputs.ensures.outputs ∙ ap (λ (ps : List Port). wires_from (length d.nets) (output_widths ps)) c.ports.ensures in
    let nets : c.deref.result.now ≡ merged (outputs m) c.args.inputs.now (output_wires (length d.nets) m) =
    c.deref.ensures.value ∙ c.in_ok-nets.ensures ∙ (λ j. merged (map (λ (p : Port). p.output) (c.ports-2.ensures j)) c.args.inputs.now (outs j)) in
    rw nets (placed-apart d c.args.name.now m c.args.inputs.now wired joined c.requires.widths c.requires.nets)

pub returns-clause-ok : goal.returns-clause-ok
returns-clause-ok c =
    let d : Draft = c.args.self.now in
    let m : ModuleText = c.args.whole.now in
    let wired : IsWired d.nets d.assigns d.nexts = rw (← c.self.view_is) c.self.invariant.wired in
    let joined : IsConnected d.nets d.assigns d.instances = rw (← c.self.view_is) c.self.invariant.connected in
    let mid : c.fresh_outputs.new.self ≡ record d { nets = d.nets ++ fresh_nets (wire_count d.nets) (output_widths m.ports) } =
    c.in_ok-outputs.ensures.ok ∙ ap (λ (ps : List Port). record d { nets = d.nets ++ fresh_nets (wire_count d.nets) (output_widths ps) }) c.ports.ensures in
    let outs : c.as_slice.result.now ≡ output_wires (length d.nets) m = c.as_slice.ensures ∙ c.in_ok-outputs.ensures.outputs ∙ ap (λ (ps : List Port). wires_from (length d.nets) (output_widths ps)) c.ports.ensures in
    let nets : c.deref.result.now ≡ merged (outputs m) c.args.inputs.now (output_wires (length d.nets) m) =
    c.deref.ensures.value ∙ c.in_ok-nets.ensures ∙ (λ j. merged (map (λ (p : Port). p.output) (c.ports-2.ensures j)) c.args.inputs.now (outs j)) in
    let made : c.instance.new.self ≡ with_placed d c.args.name.now m c.args.inputs.now =
    c.in_ok-instance.ensures.ok ∙ (λ j. record (mid j) { instances = (mid j).instances ++ instance_of c.args.name.now m (nets j) ∷ [] }) in
    made

pub returns-clause-nets : goal.returns-clause-nets
returns-clause-nets c =
    let d : Draft = c.args.self.now in
    let m : ModuleText = c.args.whole.now in
    let wired : IsWired d.nets d.assigns d.nexts = rw (← c.self.view_is) c.self.invariant.wired in
    let joined : IsConnected d.nets d.assigns d.instances = rw (← c.self.view_is) c.self.invariant.connected in
    let mid : c.fresh_outputs.new.self ≡ record d { nets = d.nets ++ fresh_nets (wire_count d.nets) (output_widths m.ports) } =
    c.in_ok-outputs.ensures.ok ∙ ap (λ (ps : List Port). record d { nets = d.nets ++ fresh_nets (wire_count d.nets) (output_widths ps) }) c.ports.ensures in
    let outs : c.as_slice.result.now ≡ output_wires (length d.nets) m = c.as_slice.ensures ∙ c.in_ok-outputs.ensures.outputs ∙ ap (λ (ps : List Port). wires_from (length d.nets) (output_widths ps)) c.ports.ensures in
    let nets : c.deref.result.now ≡ merged (outputs m) c.args.inputs.now (output_wires (length d.nets) m) =
    c.deref.ensures.value ∙ c.in_ok-nets.ensures ∙ (λ j. merged (map (λ (p : Port). p.output) (c.ports-2.ensures j)) c.args.inputs.now (outs j)) in
    let made : c.instance.new.self ≡ with_placed d c.args.name.now m c.args.inputs.now =
    c.in_ok-instance.ensures.ok ∙ (λ j. record (mid j) { instances = (mid j).instances ++ instance_of c.args.name.now m (nets j) ∷ [] }) in
    let answered : c.in_ok-outputs.outputs ≡ output_wires (length d.nets) m = c.in_ok-outputs.ensures.outputs ∙ ap (λ (ps : List Port). wires_from (length d.nets) (output_widths ps)) c.ports.ensures in
    rw (made, answered) (wires_from-IsNet d.nets (wire_count d.nets) (output_widths m.ports) (outputs_bounded m.ports (ports_within m c.rules.ensures.wired.widths)))

pub returns-clause-part : goal.returns-clause-part
returns-clause-part c =
    let d : Draft = c.args.self.now in
    let m : ModuleText = c.args.whole.now in
    let wired : IsWired d.nets d.assigns d.nexts = rw (← c.self.view_is) c.self.invariant.wired in
    let joined : IsConnected d.nets d.assigns d.instances = rw (← c.self.view_is) c.self.invariant.connected in
    let mid : c.fresh_outputs.new.self ≡ record d { nets = d.nets ++ fresh_nets (wire_count d.nets) (output_widths m.ports) } =
    c.in_ok-outputs.ensures.ok ∙ ap (λ (ps : List Port). record d { nets = d.nets ++ fresh_nets (wire_count d.nets) (output_widths ps) }) c.ports.ensures in
    let outs : c.as_slice.result.now ≡ output_wires (length d.nets) m = c.as_slice.ensures ∙ c.in_ok-outputs.ensures.outputs ∙ ap (λ (ps : List Port). wires_from (length d.nets) (output_widths ps)) c.ports.ensures in
    let nets : c.deref.result.now ≡ merged (outputs m) c.args.inputs.now (output_wires (length d.nets) m) =
    c.deref.ensures.value ∙ c.in_ok-nets.ensures ∙ (λ j. merged (map (λ (p : Port). p.output) (c.ports-2.ensures j)) c.args.inputs.now (outs j)) in
    let made : c.instance.new.self ≡ with_placed d c.args.name.now m c.args.inputs.now =
    c.in_ok-instance.ensures.ok ∙ (λ j. record (mid j) { instances = (mid j).instances ++ instance_of c.args.name.now m (nets j) ∷ [] }) in
    rw made (record { holds = λ r s m found. s.each (length d.instances) _ m (get_end d.instances _) found })

pub returns-clause-joins : goal.returns-clause-joins
returns-clause-joins c =
    let d : Draft = c.args.self.now in
    let m : ModuleText = c.args.whole.now in
    let wired : IsWired d.nets d.assigns d.nexts = rw (← c.self.view_is) c.self.invariant.wired in
    let joined : IsConnected d.nets d.assigns d.instances = rw (← c.self.view_is) c.self.invariant.connected in
    let mid : c.fresh_outputs.new.self ≡ record d { nets = d.nets ++ fresh_nets (wire_count d.nets) (output_widths m.ports) } =
    c.in_ok-outputs.ensures.ok ∙ ap (λ (ps : List Port). record d { nets = d.nets ++ fresh_nets (wire_count d.nets) (output_widths ps) }) c.ports.ensures in
    let outs : c.as_slice.result.now ≡ output_wires (length d.nets) m = c.as_slice.ensures ∙ c.in_ok-outputs.ensures.outputs ∙ ap (λ (ps : List Port). wires_from (length d.nets) (output_widths ps)) c.ports.ensures in
    let nets : c.deref.result.now ≡ merged (outputs m) c.args.inputs.now (output_wires (length d.nets) m) =
    c.deref.ensures.value ∙ c.in_ok-nets.ensures ∙ (λ j. merged (map (λ (p : Port). p.output) (c.ports-2.ensures j)) c.args.inputs.now (outs j)) in
    let made : c.instance.new.self ≡ with_placed d c.args.name.now m c.args.inputs.now =
    c.in_ok-instance.ensures.ok ∙ (λ j. record (mid j) { instances = (mid j).instances ++ instance_of c.args.name.now m (nets j) ∷ [] }) in
    rw made (Joins-placed d c.args.name.now m c.args.inputs.now)

pub returns-clause-places : goal.returns-clause-places
returns-clause-places c =
    let d : Draft = c.args.self.now in
    let m : ModuleText = c.args.whole.now in
    let wired : IsWired d.nets d.assigns d.nexts = rw (← c.self.view_is) c.self.invariant.wired in
    let joined : IsConnected d.nets d.assigns d.instances = rw (← c.self.view_is) c.self.invariant.connected in
    let mid : c.fresh_outputs.new.self ≡ record d { nets = d.nets ++ fresh_nets (wire_count d.nets) (output_widths m.ports) } =
    c.in_ok-outputs.ensures.ok ∙ ap (λ (ps : List Port). record d { nets = d.nets ++ fresh_nets (wire_count d.nets) (output_widths ps) }) c.ports.ensures in
    let outs : c.as_slice.result.now ≡ output_wires (length d.nets) m = c.as_slice.ensures ∙ c.in_ok-outputs.ensures.outputs ∙ ap (λ (ps : List Port). wires_from (length d.nets) (output_widths ps)) c.ports.ensures in
    let nets : c.deref.result.now ≡ merged (outputs m) c.args.inputs.now (output_wires (length d.nets) m) =
    c.deref.ensures.value ∙ c.in_ok-nets.ensures ∙ (λ j. merged (map (λ (p : Port). p.output) (c.ports-2.ensures j)) c.args.inputs.now (outs j)) in
    let made : c.instance.new.self ≡ with_placed d c.args.name.now m c.args.inputs.now =
    c.in_ok-instance.ensures.ok ∙ (λ j. record (mid j) { instances = (mid j).instances ++ instance_of c.args.name.now m (nets j) ∷ [] }) in
    let inst : Instance = placed_instance (length d.nets) c.args.name.now m c.args.inputs.now in
    let more = d.nets ++ fresh_nets (wire_count d.nets) (output_widths m.ports) in
    rw made (Places-placed d more inst c.requires.other (placed-Adds d c.args.name.now m c.args.inputs.now wired joined c.requires.widths c.requires.nets) (placed-Closes d c.args.name.now m c.args.inputs.now wired joined c.requires.widths c.requires.nets) (placed-ports d c.args.name.now m c.args.inputs.now wired joined c.requires.widths c.requires.nets)
    (subst (λ (x : Draft). CanFresh x) mid c.in_ok-outputs.ensures.fresh)
    (subst (λ (x : Draft). (other : List ℕ) → IsNotNumbered other → IsNew other (names_of d) → IsNew other (names_of x)) mid c.in_ok-outputs.ensures.names))

pub returns-clause-connects : goal.returns-clause-connects
returns-clause-connects c = record { named = refl; widths = placed-widths (length c.args.self.now.nets) c.args.whole.now c.args.inputs.now c.requires.widths; drives = refl }
