use Rattle.std.proofs.Common.{◌<◌, length, arith}
use Rattle.ap_program.specs.SoFar.{count_with}
use Rattle.ap_program.proofs.FreeFields.{pairs_read_left}
use Rattle.ap_program.proofs.so_far.counts_with.Goals as goal

pub loop-i-preserved : goal.loop-i-preserved
loop-i-preserved c =
    let low : c.loop-i.i < length c.args.words.now = omega (arith, c.if-i-words.false) in
    pairs_read_left (count_with c.args.name.now c.args.count) c.as_slice-mem-items.result.now c.args.words.now c.loop-i.i c.mem-item.result _ c.count_with.result c.loop-i.counts c.push.new.self _ c.loop-i-test.true low c.mem-item.is c.count_with.ensures c.in_ok-push.ensures.ok c.loop-i.invariant
