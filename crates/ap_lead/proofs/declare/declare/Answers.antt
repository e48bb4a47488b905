use Rattle.std.proofs.Common.{◌≡◌, length, sym, ap, subst, ◌∙◌}
use Rattle.ap_net.specs.Draft.{Draft}
use Rattle.ap_flight.specs.Planned.{register_wires, with_registers}
use Rattle.ap_bank.specs.Regs.{reg_wires, with_regs}
use Rattle.ap_front.specs.NewNames.{HasNone, HasNoneLeft, ported}
use Rattle.ap_front.specs.Opened.{AreOpen, NamesFront, front_plan, front_wires}
use Rattle.ap_front.specs.Ports.{HasPorts}
use Rattle.ap_front.proofs.Opened.{names_go_on, registers_extend}
use Rattle.ap_front.proofs.PortNets.{ports_go_on}
use Rattle.ap_lead.specs.Declaring.{opened}
use Rattle.ap_lead.proofs.Declaring.{regs_extend, regs_leave_names, regs_new, still_open}
use Rattle.ap_lead.proofs.declare.declare.Goals as goal

pub declare_registers-requires : goal.declare_registers-requires
declare_registers-requires c =
    let design = c.args.design.now in
    let p = c.in_ok-ports.ensures in
    let none : HasNone (ported design) = c.names_are_new.ensures.ports design c.requires.clean in
    record {
      clean = c.requires.clean;
      slots = c.requires.slots;
      new = c.names_are_new.ensures.front design c.declare_ports.new.out c.args.slots.now.stages (subst HasNone (sym p.ok) none);
      fresh = p.fresh;
    }

pub declare_regs-requires : goal.declare_regs-requires
declare_regs-requires c =
    let design = c.args.design.now in
    let p = c.in_ok-ports.ensures in
    let f = c.in_ok-front.ensures in
    let none : HasNone (ported design) = c.names_are_new.ensures.ports design c.requires.clean in
    let left : HasNoneLeft c.declare_registers.new.out = c.names_are_new.ensures.registers design c.declare_ports.new.out c.declare_registers.new.out c.args.slots.now.stages f.others (subst HasNone (sym p.ok) none) in
    record { clean = c.requires.clean; new = regs_new c.declare_registers.new.out design.regs left; fresh = f.fresh }

pub returns : goal.returns
returns c =
    let design = c.args.design.now in
    let stages = c.args.slots.now.stages in
    let a : Draft = c.declare_ports.new.out in
    let b : Draft = c.declare_registers.new.out in
    let d : Draft = c.declare_regs.new.out in
    let p = c.in_ok-ports.ensures in
    let f = c.in_ok-front.ensures in
    let r = c.in_ok-regs.ensures in
    let none : HasNone (ported design) = c.names_are_new.ensures.ports design c.requires.clean in
    let left : HasNoneLeft b = c.names_are_new.ensures.registers design a b stages f.others (subst HasNone (sym p.ok) none) in
    let opened_is : b ≡ opened design stages = f.ok ∙ ap (λ (x : Draft). with_registers x (front_plan design stages)) p.ok in
    let first = subst (λ (x : Draft). HasPorts design x c.in_ok-ports.ports) (sym f.ok) (ports_go_on design a (with_registers a (front_plan design stages)) c.in_ok-ports.ports (registers_extend a (front_plan design stages)) p.ports) in
    record {
      is = r.ok ∙ ap (λ (x : Draft). with_regs x design.regs) opened_is;
      ports = subst (λ (x : Draft). HasPorts design x c.in_ok-ports.ports) (sym r.ok) (ports_go_on design b (with_regs b design.regs) c.in_ok-ports.ports (regs_extend b design.regs) first);
      front = subst (λ (x : Draft). NamesFront design x stages c.in_ok-front.front) (sym r.ok) (names_go_on design b (with_regs b design.regs) stages c.in_ok-front.front (regs_extend b design.regs) f.names);
      front_are = f.wires ∙ ap (λ (x : Draft). register_wires (length x.nets) (front_plan design stages)) p.ok;
      front_open = subst (λ (x : Draft). AreOpen x (front_wires c.in_ok-front.front)) (sym r.ok) (still_open b design.regs (front_wires c.in_ok-front.front) f.free);
      regs_are = r.wires ∙ ap (λ (x : Draft). reg_wires (length x.nets) design.regs) opened_is;
      regs = r.regs;
      fresh = r.fresh;
      names = regs_leave_names design.regs b d r.others left;
    }
