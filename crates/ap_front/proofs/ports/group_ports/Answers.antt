use Rattle.std.proofs.Common.{◌≡◌, ◌<◌, List, Some, length, sym, ap, subst, ◌∙◌}
use Rattle.std.specs.Prelude.{slice_get}
use Rattle.ap_desc.specs.declared.design.File.{File}
use Rattle.ap_desc.specs.declared.design.Reg.{Reg}
use Rattle.ap_model.specs.declared.storage.WritePort.{WritePort}
use Rattle.ap_model.specs.declared.storage.WritePort.TheVariants as port
use Rattle.ap_net.specs.Outside.{Group}
use Rattle.ap_flight.proofs.AllPlans.{item_at}
use Rattle.ap_signals.specs.DesignOutside.{file_group, group_of, reg_group}
use Rattle.ap_front.specs.Ports.{AreGroupPorts, CanDeclare, group_ports_of, ports_of_group, with_ports}
use Rattle.ap_front.proofs.Grouping.{cell_group, file_there, file_within, reg_there, register_group}
use Rattle.ap_front.proofs.ports.group_ports.Goals as goal

pub cell_ports-requires : goal.cell_ports-requires
cell_ports-requires c =
    let design = c.args.design.now in
    let files : List File = design.files in
    let f : File = c.index-as_slice-file.result in
    let p : WritePort = port.Cell c.in-Cell.file c.in-Cell.number in
    let can : CanDeclare (group_ports_of design p) c.args.out.now = subst (λ x. CanDeclare (group_ports_of design x) c.args.out.now) c.in-Cell.is c.requires.can in
    let there = file_there design c.in-Cell.file c.in-Cell.number c.args.out.now can in
    let at : slice_get files c.in-Cell.file ≡ Some f = item_at c.as_slice-in-Cell.result.now files c.in-Cell.file f c.as_slice-in-Cell.ensures (subst (λ (l : List File). c.in-Cell.file < length l) (sym c.as_slice-in-Cell.ensures) there) c.index-as_slice-file.is in
    record {
      within = file_within design c.in-Cell.file f c.requires.clean at;
      can = subst (λ (g : Group). CanDeclare (ports_of_group g) c.args.out.now) (cell_group design c.in-Cell.file c.in-Cell.number f at) can;
      fresh = c.requires.fresh;
    }

pub returns-in_ok-made-in-Register : goal.returns-in_ok-made-in-Register
returns-in_ok-made-in-Register c =
    let design = c.args.design.now in
    let regs : List Reg = design.regs in
    let r : Reg = c.index-as_slice-reg.result in
    let can : CanDeclare (group_ports_of design (port.Register c.in-Register.reg)) c.args.out.now = subst (λ x. CanDeclare (group_ports_of design x) c.args.out.now) c.in-Register.is c.requires.can in
    let there = reg_there design c.in-Register.reg c.args.out.now can in
    let at : slice_get regs c.in-Register.reg ≡ Some r = item_at c.as_slice.result.now regs c.in-Register.reg r c.as_slice.ensures (subst (λ (l : List Reg). c.in-Register.reg < length l) (sym c.as_slice.ensures) there) c.index-as_slice-reg.is in
    let same : group_of design c.args.port ≡ reg_group r = ap (group_of design) c.in-Register.is ∙ register_group design c.in-Register.reg r at in
    let y = c.in_ok-made-in-Register.ensures in
    record {
      ok = y.ok ∙ ap (λ (g : Group). with_ports c.args.out.now (ports_of_group g)) (sym same);
      is = record { of = y.of ∙ sym c.in-Register.is; ports = subst (λ (g : Group). AreGroupPorts c.reg_ports.new.out g c.in_ok-made-in-Register.made) (sym same) y.is };
      fresh = y.fresh;
    }

pub returns-in_ok-made-in-Cell : goal.returns-in_ok-made-in-Cell
returns-in_ok-made-in-Cell c =
    let design = c.args.design.now in
    let files : List File = design.files in
    let f : File = c.index-as_slice-file.result in
    let p : WritePort = port.Cell c.in-Cell.file c.in-Cell.number in
    let can : CanDeclare (group_ports_of design p) c.args.out.now = subst (λ x. CanDeclare (group_ports_of design x) c.args.out.now) c.in-Cell.is c.requires.can in
    let there = file_there design c.in-Cell.file c.in-Cell.number c.args.out.now can in
    let at : slice_get files c.in-Cell.file ≡ Some f = item_at c.as_slice-in-Cell.result.now files c.in-Cell.file f c.as_slice-in-Cell.ensures (subst (λ (l : List File). c.in-Cell.file < length l) (sym c.as_slice-in-Cell.ensures) there) c.index-as_slice-file.is in
    let same : group_of design c.args.port ≡ file_group c.in-Cell.number f = ap (group_of design) c.in-Cell.is ∙ cell_group design c.in-Cell.file c.in-Cell.number f at in
    let y = c.in_ok-made-in-Cell.ensures in
    record {
      ok = y.ok ∙ ap (λ (g : Group). with_ports c.args.out.now (ports_of_group g)) (sym same);
      is = record { of = y.of ∙ sym c.in-Cell.is; ports = subst (λ (g : Group). AreGroupPorts c.cell_ports.new.out g c.in_ok-made-in-Cell.made) (sym same) y.is };
      fresh = y.fresh;
    }
