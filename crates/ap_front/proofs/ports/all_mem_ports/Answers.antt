use Rattle.std.proofs.Common.{◌≡◌, List, Some, refl, arith}
use Rattle.std.specs.Prelude.{slice_get}
use Rattle.ap_desc.specs.declared.design.Mem.{Mem}
use Rattle.ap_flight.proofs.AllPlans.{item_at}
use Rattle.ap_front.specs.Ports.{AreMemPorts, mem_of}
use Rattle.ap_front.proofs.Porting.{AreMemPorts-Extends, declares_all_made, declares_all_out, declares_more, declares_next, declares_none}
use Rattle.ap_front.proofs.ports.all_mem_ports.Goals as goal

pub loop-mem-init : goal.loop-mem-init
loop-mem-init c = rw c.new-made.ensures (record { made = declares_none mem_of AreMemPorts c.args.mems.now c.args.out.now c.requires.can c.requires.fresh })

pub mem_ports-requires : goal.mem_ports-requires
mem_ports-requires c =
    let h = c.loop-mem.invariant.made in
    let mems : List Mem = c.args.mems.now in
    let at : slice_get mems c.loop-mem.mem-index ≡ Some c.mem-item.result = item_at mems mems c.loop-mem.mem-index c.mem-item.result refl (omega arith) c.mem-item.is in
    record { can = declares_next mem_of AreMemPorts mems c.loop-mem.mem-index c.mem-item.result c.args.out.now c.loop-mem.out c.loop-mem.made at h; fresh = h.fresh }

pub loop-mem-preserved : goal.loop-mem-preserved
loop-mem-preserved c =
    let h = c.loop-mem.invariant.made in
    let y = c.in_ok-ports.ensures in
    let mems : List Mem = c.args.mems.now in
    let at : slice_get mems c.loop-mem.mem-index ≡ Some c.mem-item.result = item_at mems mems c.loop-mem.mem-index c.mem-item.result refl (omega arith) c.mem-item.is in
    rw c.in_ok-push.ensures.ok (record { made = declares_more mem_of AreMemPorts (λ a b x w e k. AreMemPorts-Extends e k) mems c.loop-mem.mem-index c.mem-item.result c.args.out.now c.loop-mem.out c.mem_ports.new.out c.loop-mem.made c.in_ok-ports.ports at h y.ok y.is y.fresh })

pub returns : goal.returns
returns c =
    let h = c.loop-mem.invariant.made in
    record {
      ok = declares_all_out mem_of AreMemPorts c.args.mems.now c.loop-mem.mem-index c.args.out.now c.loop-mem.out c.loop-mem.made (omega arith) h;
      is = declares_all_made mem_of AreMemPorts c.args.mems.now c.loop-mem.mem-index c.args.out.now c.loop-mem.out c.loop-mem.made (omega arith) h;
      fresh = h.fresh;
    }
