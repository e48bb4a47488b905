use Rattle.std.proofs.Common.{◌≡◌, length, ap, arith}
use Rattle.ap_eval.proofs.Starting.{started_is, started_ready}
use Rattle.ap_eval.proofs.bench.Bench.start.Goals as goal

pub invariant_of-result : goal.invariant_of-result
invariant_of-result c =
    let f = c.args.flat.now in
    let nexts : length c.nexts.result.now ≡ length f.net.nexts = ap length c.nexts.ensures in
    record {
      plan = c.in_ok-plan.ensures;
      ready = started_ready f c.rules.ensures c.args.image c.requires c.in_ok-values.values.items c.in_ok-memories.memories.items c.in_ok-values.ensures c.in_ok-memories.ensures.words c.in_ok-memories.ensures.rooms;
      room = omega (arith, c.in_ok-taken.ensures.len, c.in_ok-taken.taken.ok.0);
      showing = c.in_ok-shown.ensures.showing;
      limited = c.in_ok-shown.ensures.limited;
      ordered = c.in_ok-order.ensures;
    }

pub returns : goal.returns
returns c =
    started_is c.args.flat.now c.rules.ensures c.args.image c.requires c.in_ok-values.values.items c.in_ok-memories.memories.items c.in_ok-values.ensures c.in_ok-memories.ensures.words c.in_ok-memories.ensures.rooms
    c.in_ok-shown.shown.values.items c.in_ok-shown.ensures.nothing c.in_ok-shown.shown.spots.items
