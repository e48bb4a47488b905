use Rattle.std.proofs.Common.{◌≡◌, ◌≤◌, length, ap, arith}
use Rattle.ap_eval.specs.Spots.{port_count_of}
use Rattle.ap_eval.proofs.Stepping.{ports_within}
use Rattle.ap_eval.proofs.bench.nothing_shown.Goals as goal

pub spots_of-requires-clause-ports : goal.spots_of-requires-clause-ports
spots_of-requires-clause-ports c =
    let a : port_count_of c.args.flat.now.outside ≤ length c.args.flat.now.net.nets = ports_within c.args.flat.now c.rules.ensures in
    let b : length c.nets-count.result.now ≡ length c.args.flat.now.net.nets = ap length c.nets-count.ensures in
    let e : port_count_of c.outside-outside.result.now ≡ port_count_of c.args.flat.now.outside = ap port_count_of c.outside-outside.ensures in
    omega arith

pub port_count-requires-clause-ports : goal.port_count-requires-clause-ports
port_count-requires-clause-ports c =
    let a : port_count_of c.args.flat.now.outside ≤ length c.args.flat.now.net.nets = ports_within c.args.flat.now c.rules.ensures in
    let b : length c.nets-count.result.now ≡ length c.args.flat.now.net.nets = ap length c.nets-count.ensures in
    let e : port_count_of c.outside-outside.result.now ≡ port_count_of c.args.flat.now.outside = ap port_count_of c.outside-outside.ensures in
    omega arith
