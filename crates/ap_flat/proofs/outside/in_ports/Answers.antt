use Rattle.std.proofs.Common.{◌≡◌, ◌+◌, [], ◌∷◌, length, length-append, ap, ◌∙◌, arith}
use Rattle.ap_flat.specs.Ports.{IsInPort}
use Rattle.ap_flat.proofs.PortPieces.{each_push, one_input_more}
use Rattle.ap_flat.proofs.outside.in_ports.Goals as goal

pub loop-port-preserved : goal.loop-port-preserved
loop-port-preserved c =
    let some = rw c.in-Some.is at c.in_ok-input.ensures.some in
    let before = c.loop-port.invariant in
    let long : length c.push.new.self ≡ length c.loop-port.inputs + 1 = ap length c.in_ok-push.ensures.ok ∙ length-append c.loop-port.inputs (c.in-Some.input ∷ []) in
    record {
      long = omega arith;
      same = rw c.in_ok-push.ensures.ok (one_input_more c.args.ports.now c.loop-port.port-index c.port-item.result c.loop-port.inputs c.in-Some.input c.loop-port-test.true c.port-item.is before.same some.1);
      each = rw c.in_ok-push.ensures.ok (each_push IsInPort c.loop-port.inputs c.in-Some.input before.each some.0);
    }
