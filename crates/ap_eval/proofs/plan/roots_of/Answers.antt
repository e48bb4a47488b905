use Rattle.std.proofs.Common.{◌≡◌, ◌∙◌, length, ap, arith}
use Rattle.ap_eval.proofs.Rooting.{all_rooted, net_low, root_more, source_more}
use Rattle.ap_eval.proofs.plan.roots_of.Goals as goal

pub root_of-requires : goal.root_of-requires
root_of-requires c =
    let f = c.args.flat.now in
    let long = ap length c.deref.ensures.value ∙ c.loop-net.invariant.long ∙ c.rules.ensures.drivers.long in
    source_more f c.rules.ensures c.order-net-items.result.now c.drivers-drivers.result.now c.order-net-items.ensures c.drivers-drivers.ensures c.loop-net.net-index c.loop-net-test.true (length c.deref.result.now) long

pub index_mut-requires : goal.index_mut-requires
index_mut-requires c =
    let f = c.args.flat.now in
    let low = net_low f c.rules.ensures c.order-net-items.result.now c.drivers-drivers.result.now c.order-net-items.ensures c.drivers-drivers.ensures c.loop-net.net-index c.loop-net-test.true in
    let long : length c.loop-net.roots.items ≡ length f.net.nets = c.loop-net.invariant.long ∙ c.rules.ensures.drivers.long in
    omega (arith, c.loop-net.roots.ok.0)

pub loop-net-preserved : goal.loop-net-preserved
loop-net-preserved c =
    root_more c.args.flat.now c.rules.ensures c.order-net-items.result.now c.drivers-drivers.result.now c.order-net-items.ensures c.drivers-drivers.ensures c.loop-net.net-index c.loop-net-test.true
    c.loop-net.roots.items c.deref.result.now c.root_of.result c.deref.ensures.value c.root_of.ensures c.loop-net.invariant

pub returns : goal.returns
returns c =
    let e : length c.order-net-items.result.now ≡ length c.args.flat.now.order = ap length c.order-net-items.ensures in
    all_rooted c.args.flat.now c.rules.ensures c.loop-net.roots.items c.loop-net.net-index (omega arith) c.loop-net.invariant
