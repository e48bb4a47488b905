use Rattle.std.proofs.Common.{◌≡◌, ◌∷◌, [], refl, sym, ap, subst, ◌∙◌}
use Rattle.std.specs.List.{AllByRecursion as Each}
use Rattle.ap_net.specs.Draft.{Draft}
use Rattle.ap_net.specs.Modules.{ports_among}
use Rattle.ap_net.proofs.Laws.{IsNew-made, IsNotNumbered-other}
use Rattle.ap_signals.specs.NetRuns.{pc_name}
use Rattle.ap_flight.specs.Planned.{IsNewIn, register_net, stages_plan, with_registers}
use Rattle.ap_flight.proofs.AllPlans.{others_append, registers_append}
use Rattle.ap_flight.proofs.Plans.{ports_registers}
use Rattle.ap_flight.proofs.Within.{address_fits}
use Rattle.ap_front.specs.Opened.{AreOpen, front_plan, front_wires}
use Rattle.ap_front.specs.declared.registers.Registers.{Registers}
use Rattle.ap_front.proofs.Opened.{are_open, front_named, front_plans, front_wired, pc_plan, positive_power, stages_new, stages_some}
use Rattle.ap_front.proofs.registers.declare_registers.Goals as goal

pub register-requires : goal.register-requires
register-requires c =
    let fit = address_fits c.args.design.now c.requires.clean in
    record { is_name = refl; name = c.requires.new.0; low = fit.low; high = fit.high; reset = positive_power c.args.design.now.address }

pub stage_registers-requires : goal.stage_registers-requires
stage_registers-requires c =
    let design = c.args.design.now in
    let p = c.in_ok-pc.ensures in
    record {
      clean = c.requires.clean;
      slots = c.requires.slots;
      new = subst (λ (d : Draft). Each (IsNewIn d) (stages_plan design 1 c.args.slots.now.stages)) (sym p.ok) (stages_new design c.args.out.now c.args.slots.now.stages c.requires.new.1);
      fresh = p.fresh (IsNotNumbered-other pc_name refl) c.requires.fresh;
    }

pub returns : goal.returns
returns c =
    let design = c.args.design.now in
    let stages = c.args.slots.now.stages in
    let a : Draft = c.args.out.now in
    let b : Draft = c.register.new.self in
    let d : Draft = c.stage_registers.new.out in
    let p = c.in_ok-pc.ensures in
    let s = c.in_ok-stages.ensures in
    let r : Registers = record { pc = c.in_ok-pc.pc; stages = c.in_ok-stages.stages } in
    let ok : d ≡ with_registers a (front_plan design stages) = s.ok ∙ ap (λ (x : Draft). with_registers x (stages_plan design 1 stages)) p.ok ∙ registers_append a (pc_plan design ∷ []) (stages_plan design 1 stages) in
    let wires = front_wired design stages a b r p.ok p.wire s.wires in
    record {
      ok = ok;
      names = front_named design stages a b d r p.ok p.wire s.ok s.names;
      wires = wires;
      free = subst (λ (x : Draft). AreOpen x (front_wires r)) (sym ok) (subst (λ ws. AreOpen (with_registers a (front_plan design stages)) ws) (sym wires)
          (are_open a (front_plan design stages) c.rules.ensures (front_plans design stages c.requires.clean c.requires.slots.count (stages_some design c.requires.clean) c.requires.slots.each)));
      fresh = s.fresh;
      late = λ x h. s.late x (p.stay x h);
      ports = s.ports ∙ ap (λ (x : Draft). ports_among x.nets) p.ok ∙ ports_registers a (pc_plan design ∷ []);
      others = others_append (pc_plan design ∷ []) (stages_plan design 1 stages) a b d
          (λ name apart new. subst (λ (x : Draft). IsNewIn x (record { name = name; width = 1 })) (sym p.ok) (IsNew-made a.instances a.nets (register_net (pc_plan design)) name apart.0 new)) s.others;
    }
