use Rattle.std.proofs.Common.{◌≡◌, ◌-◌, ◌<◌, get_or, length, ap, arith}
use Rattle.ap_dist.specs.Trails.{slot_of}
use Rattle.ap_dist.proofs.Built.{followed_all, followed_more, followed_none}
use Rattle.ap_dist.proofs.Read.{gap_read}
use Rattle.ap_dist.proofs.distance.trail_reach.Goals as goal

pub loop-line-init : goal.loop-line-init
loop-line-init c =
    followed_none c.args.design.now c.args.younger.now c.args.word c.args.older (get_or c.args.trails.now.last c.slot_of.result 0) c.slot_of.result c.args.most c.slot_of.ensures.slot (c.requires.trails.ends c.slot_of.result c.slot_of.ensures.low)

pub loop-line-preserved : goal.loop-line-preserved
loop-line-preserved c =
    let f = c.loop-line.invariant in
    let some : 0 < c.loop-line.line = c.loop-line-test.true in
    let count : length c.as_slice-micros.result.now ≡ length c.args.younger.now.micros = ap length c.as_slice-micros.ensures in
    let lt : c.loop-line.line - 1 < length c.as_slice-micros.result.now = (let within = f.within in omega arith) in
    let before = c.requires.trails.steps (c.loop-line.line - 1) (slot_of c.args.older.part) (f.here some) in
    followed_more c.args.design.now c.args.younger.now c.args.word c.args.older c.args.most c.loop-line.line c.loop-line.most (get_or c.args.trails.now.before (c.loop-line.line - 1) 0) c.line_reach-most.result f some before
    (gap_read c.args.design.now c.args.younger.now c.args.word c.args.older c.as_slice-micros.result.now c.as_slice-micros.ensures (c.loop-line.line - 1) lt _ c.loop-line.most c.line_reach-most.result c.line_reach-most.ensures)

pub returns : goal.returns
returns c = followed_all c.args.design.now c.args.younger.now c.args.word c.args.older c.args.most c.loop-line.line c.loop-line.most c.requires.low c.loop-line.invariant (omega arith)
