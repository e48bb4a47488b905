use Rattle.std.proofs.Common.{◌≡◌, List, Some, get_or, length, sym, ap, ◌∙◌, arith}
use Rattle.std.specs.Prelude.{slice_get}
use Rattle.ap_model.specs.declared.storage.WritePort.{WritePort}
use Rattle.ap_model.specs.Ports.{write_groups}
use Rattle.ap_model.specs.declared.storage.WritePort.TheVariants as port
use Rattle.std.proofs.lemmas.Option.{slice_get-get_or}
use Rattle.ap_front.specs.Ports.{ArePortsOf, group_ports_of}
use Rattle.ap_front.proofs.Grouping.{files_few, regs_few}
use Rattle.ap_front.proofs.Porting.{ArePortsOf-Extends, declares_all_made, declares_all_out, declares_more, declares_next, declares_none}
use Rattle.ap_front.proofs.ports.all_group_ports.Goals as goal

pub write_groups-requires : goal.write_groups-requires
write_groups-requires c = record { regs = regs_few c.args.design.now c.requires.clean; files = files_few c.args.design.now c.requires.clean }

pub loop-group-init : goal.loop-group-init
loop-group-init c = let design = c.args.design.now in rw c.new-made.ensures (record { made = declares_none (group_ports_of design) (ArePortsOf design) (write_groups design) c.args.out.now c.requires.can c.requires.fresh })

pub group_ports-requires : goal.group_ports-requires
group_ports-requires c =
    let design = c.args.design.now in
    let h = c.loop-group.invariant.made in
    let i = c.loop-group.group-index in
    let items : List WritePort = c.as_slice-group-items.result.now in
    let list : List WritePort = write_groups design in
    let same : items ≡ list = c.as_slice-group-items.ensures ∙ c.in_ok-groups.ensures in
    let x : WritePort = get_or items i (port.Register 0) in
    let at : slice_get list i ≡ Some x = ap (λ (l : List WritePort). slice_get l i) (sym same) ∙ slice_get-get_or items i (port.Register 0) (omega arith) in
    record { clean = c.requires.clean; can = declares_next (group_ports_of design) (ArePortsOf design) list i x c.args.out.now c.loop-group.out c.loop-group.made at h; fresh = h.fresh }

pub loop-group-preserved : goal.loop-group-preserved
loop-group-preserved c =
    let design = c.args.design.now in
    let h = c.loop-group.invariant.made in
    let y = c.in_ok-ports.ensures in
    let i = c.loop-group.group-index in
    let items : List WritePort = c.as_slice-group-items.result.now in
    let list : List WritePort = write_groups design in
    let same : items ≡ list = c.as_slice-group-items.ensures ∙ c.in_ok-groups.ensures in
    let x : WritePort = get_or items i (port.Register 0) in
    let at : slice_get list i ≡ Some x = ap (λ (l : List WritePort). slice_get l i) (sym same) ∙ slice_get-get_or items i (port.Register 0) (omega arith) in
    rw c.in_ok-push.ensures.ok (record { made = declares_more (group_ports_of design) (ArePortsOf design) (λ a b x w e k. ArePortsOf-Extends e k) list i x c.args.out.now c.loop-group.out c.group_ports.new.out c.loop-group.made c.in_ok-ports.ports at h y.ok y.is y.fresh })

pub returns : goal.returns
returns c =
    let design = c.args.design.now in
    let h = c.loop-group.invariant.made in
    let i = c.loop-group.group-index in
    let list : List WritePort = write_groups design in
    let same : length c.as_slice-group-items.result.now ≡ length list = ap length (c.as_slice-group-items.ensures ∙ c.in_ok-groups.ensures) in
    record {
      ok = declares_all_out (group_ports_of design) (ArePortsOf design) list i c.args.out.now c.loop-group.out c.loop-group.made (omega arith) h;
      is = declares_all_made (group_ports_of design) (ArePortsOf design) list i c.args.out.now c.loop-group.out c.loop-group.made (omega arith) h;
      fresh = h.fresh;
    }
