use Rattle.std.proofs.Common.{◌≡◌, length, arith, length-take, rules, ◌∙◌}
use Rattle.ap_desk.proofs.Whole.{front_more}
use Rattle.ap_desk.proofs.pieces.read_all.Goals as goal

pub loop-piece-preserved : goal.loop-piece-preserved
loop-piece-preserved g c =
    let here : c.len-in-loop-piece.result ≡ length c.loop-piece.bytes.items = search rules in
    let bounded = c.in_ok-count.ensures.bound in
    record {
      bound = let grown = c.in_ok-extend_from_slice.ensures.len in omega (arith, length-take c.in_ok-count.count c.read.new.into);
      same = c.in_ok-count.ensures.same ∙ c.loop-piece.invariant.same;
      front = front_more _ c.args.name.now c.loop-piece.bytes.items c.read.new.into _ c.len-in-loop-piece.result c.in_ok-count.count here c.loop-piece.invariant.front (rw c.loop-piece.invariant.same at c.in_ok-count.ensures.bytes) c.in_ok-extend_from_slice.ensures.items;
      counts = c.in_ok-count.ensures.cause ∙ c.loop-piece.invariant.counts;
    }
