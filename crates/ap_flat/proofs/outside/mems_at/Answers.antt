use Rattle.std.proofs.Common.{◌-◌, length, drop, take}
use Rattle.ap_flat.specs.Ports.{IsMem}
use Rattle.ap_flat.proofs.PortPieces.{AreMemsThen, each_push, one_mem_more}
use Rattle.ap_flat.proofs.outside.mems_at.Goals as goal

pub mems-preserved : goal.mems-preserved
mems-preserved c =
    let some = rw c.in-Some.is at c.in_ok-mem.ensures.some in
    let before = c.mems.invariant in
    let rest = c.mems.rest.now in
    let more : AreMemsThen c.args.ports.now c.push.new.self (take (length rest - 5) (drop 5 rest)) = rw c.in_ok-push.ensures.ok (one_mem_more c.args.ports.now rest c.mems.mems c.in-Some.mem before.within before.split before.after some.1) in
    record {
      within = more.within;
      split = more.split;
      after = more.after;
      each = rw c.in_ok-push.ensures.ok (each_push IsMem c.mems.mems c.in-Some.mem before.each some.0);
    }
