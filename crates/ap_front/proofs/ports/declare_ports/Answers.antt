use Rattle.std.proofs.Common.{sym, subst}
use Rattle.ap_net.specs.Draft.{CanFresh}
use Rattle.ap_front.specs.declared.ports.Ports.{Ports}
use Rattle.ap_front.proofs.PortChain.{all_declared, can_groups, can_idata, can_inputs, can_kill, can_mems, can_mwait, can_stall, from_mems, has_ports, inputs_of, mems_of}
use Rattle.ap_front.proofs.Porting.{blank_fresh, can_front}
use Rattle.ap_front.proofs.PortNames.{can_in}
use Rattle.ap_front.proofs.ports.declare_ports.Goals as goal

pub output_port-requires : goal.output_port-requires
output_port-requires c =
    let design = c.args.design.now in
    record { can = (can_in design c.args.out.now c.requires.clean c.requires.empty).each.0; fresh = subst CanFresh (sym c.requires.empty) blank_fresh }

pub input_port-requires : goal.input_port-requires
input_port-requires c =
    let design = c.args.design.now in
    record { can = (can_idata design _ _ c.in_ok-iaddr.ensures.ok (can_in design c.args.out.now c.requires.clean c.requires.empty)).each.0; fresh = c.in_ok-iaddr.ensures.fresh }

pub input_port-requires-2 : goal.input_port-requires-2
input_port-requires-2 c =
    let design = c.args.design.now in
    record { can = (can_mwait design _ _ c.in_ok-idata.ensures.ok (can_idata design _ _ c.in_ok-iaddr.ensures.ok (can_in design c.args.out.now c.requires.clean c.requires.empty))).each.0; fresh = c.in_ok-idata.ensures.fresh }

pub input_ports-requires : goal.input_ports-requires
input_ports-requires c =
    let design = c.args.design.now in
    let h = can_inputs design _ _ c.in_ok-mwait.ensures.ok (can_mwait design _ _ c.in_ok-idata.ensures.ok (can_idata design _ _ c.in_ok-iaddr.ensures.ok (can_in design c.args.out.now c.requires.clean c.requires.empty))) in
    rw c.as_slice.ensures (record { can = can_front _ (inputs_of design) (from_mems design) h; fresh = c.in_ok-mwait.ensures.fresh })

pub all_mem_ports-requires : goal.all_mem_ports-requires
all_mem_ports-requires c =
    let design = c.args.design.now in
    let i = rw c.as_slice.ensures at c.in_ok-inputs.ensures in
    let h = can_mems design _ _ i.ok (can_inputs design _ _ c.in_ok-mwait.ensures.ok (can_mwait design _ _ c.in_ok-idata.ensures.ok (can_idata design _ _ c.in_ok-iaddr.ensures.ok (can_in design c.args.out.now c.requires.clean c.requires.empty)))) in
    rw c.as_slice-2.ensures (record { can = can_front _ (mems_of design) _ h; fresh = i.fresh })

pub output_port-requires-2 : goal.output_port-requires-2
output_port-requires-2 c =
    let design = c.args.design.now in
    let i = rw c.as_slice.ensures at c.in_ok-inputs.ensures in
    let m = rw c.as_slice-2.ensures at c.in_ok-mems.ensures in
    let h = can_stall design _ _ m.ok (can_mems design _ _ i.ok (can_inputs design _ _ c.in_ok-mwait.ensures.ok (can_mwait design _ _ c.in_ok-idata.ensures.ok (can_idata design _ _ c.in_ok-iaddr.ensures.ok (can_in design c.args.out.now c.requires.clean c.requires.empty))))) in
    record { can = h.each.0; fresh = m.fresh }

pub output_port-requires-3 : goal.output_port-requires-3
output_port-requires-3 c =
    let design = c.args.design.now in
    let i = rw c.as_slice.ensures at c.in_ok-inputs.ensures in
    let m = rw c.as_slice-2.ensures at c.in_ok-mems.ensures in
    let h = can_kill design _ _ c.in_ok-stall.ensures.ok (can_stall design _ _ m.ok (can_mems design _ _ i.ok (can_inputs design _ _ c.in_ok-mwait.ensures.ok (can_mwait design _ _ c.in_ok-idata.ensures.ok (can_idata design _ _ c.in_ok-iaddr.ensures.ok (can_in design c.args.out.now c.requires.clean c.requires.empty)))))) in
    record { can = h.each.0; fresh = c.in_ok-stall.ensures.fresh }

pub all_group_ports-requires : goal.all_group_ports-requires
all_group_ports-requires c =
    let design = c.args.design.now in
    let i = rw c.as_slice.ensures at c.in_ok-inputs.ensures in
    let m = rw c.as_slice-2.ensures at c.in_ok-mems.ensures in
    let h = can_groups design _ _ c.in_ok-kill.ensures.ok (can_kill design _ _ c.in_ok-stall.ensures.ok (can_stall design _ _ m.ok (can_mems design _ _ i.ok (can_inputs design _ _ c.in_ok-mwait.ensures.ok (can_mwait design _ _ c.in_ok-idata.ensures.ok (can_idata design _ _ c.in_ok-iaddr.ensures.ok (can_in design c.args.out.now c.requires.clean c.requires.empty))))))) in
    record { clean = c.requires.clean; can = h; fresh = c.in_ok-kill.ensures.fresh }

pub returns : goal.returns
returns c =
    let design = c.args.design.now in
    let i = rw c.as_slice.ensures at c.in_ok-inputs.ensures in
    let m = rw c.as_slice-2.ensures at c.in_ok-mems.ensures in
    let g = c.in_ok-groups.ensures in
    let p : Ports = record { iaddr = c.in_ok-iaddr.iaddr; idata = c.in_ok-idata.idata; mwait = c.in_ok-mwait.mwait; inputs = c.in_ok-inputs.inputs; mems = c.in_ok-mems.mems; stall = c.in_ok-stall.stall; kill = c.in_ok-kill.kill; groups = c.in_ok-groups.groups } in
    record {
      ok = all_declared design c.args.out.now c.output_port.new.out c.input_port.new.out c.input_port-2.new.out c.input_ports.new.out c.all_mem_ports.new.out c.output_port-2.new.out c.output_port-3.new.out c.all_group_ports.new.out p
          c.in_ok-iaddr.ensures.ok c.in_ok-idata.ensures.ok c.in_ok-mwait.ensures.ok i.ok m.ok c.in_ok-stall.ensures.ok c.in_ok-kill.ensures.ok g.ok
          c.in_ok-iaddr.ensures.is c.in_ok-idata.ensures.is c.in_ok-mwait.ensures.is i.is m.is c.in_ok-stall.ensures.is c.in_ok-kill.ensures.is g.is c.requires.empty;
      ports = has_ports design c.args.out.now c.output_port.new.out c.input_port.new.out c.input_port-2.new.out c.input_ports.new.out c.all_mem_ports.new.out c.output_port-2.new.out c.output_port-3.new.out c.all_group_ports.new.out p
          c.in_ok-iaddr.ensures.ok c.in_ok-idata.ensures.ok c.in_ok-mwait.ensures.ok i.ok m.ok c.in_ok-stall.ensures.ok c.in_ok-kill.ensures.ok g.ok
          c.in_ok-iaddr.ensures.is c.in_ok-idata.ensures.is c.in_ok-mwait.ensures.is i.is m.is c.in_ok-stall.ensures.is c.in_ok-kill.ensures.is g.is;
      fresh = g.fresh;
    }
