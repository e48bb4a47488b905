use Rattle.ap_bank.proofs.LateMade.{late_more, late_none}
use Rattle.ap_bank.proofs.late.late_nets.Goals as goal

pub loop-init : goal.loop-init
loop-init c = rw c.new-made.ensures (late_none c.args.width c.args.out.now c.requires.fresh)

pub late-requires : goal.late-requires
late-requires c = record { fresh = c.loop.invariant.fresh; low = c.requires.width.low; high = c.requires.width.high }

pub loop-preserved : goal.loop-preserved
loop-preserved c =
    let y = c.in_ok-net.ensures in
    rw c.in_ok-push.ensures.ok (late_more c.loop.counter c.args.width c.loop.made c.in_ok-net.net c.args.out.now c.loop.out c.late.new.self c.loop.invariant y.ok y.wire y.late y.stay y.fresh y.names)
