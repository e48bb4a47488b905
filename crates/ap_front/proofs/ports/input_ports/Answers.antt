use Rattle.std.proofs.Common.{◌≡◌, List, Some, refl, arith}
use Rattle.std.specs.Prelude.{slice_get}
use Rattle.ap_desc.specs.declared.design.InPort.{InPort}
use Rattle.ap_flight.proofs.AllPlans.{item_at}
use Rattle.ap_front.specs.Ports.{IsInput, input_of}
use Rattle.ap_front.proofs.Porting.{IsPort-Extends, declares_all_made, declares_all_out, declares_more, declares_next, declares_none}
use Rattle.ap_front.proofs.ports.input_ports.Goals as goal

pub loop-input-init : goal.loop-input-init
loop-input-init c = rw c.new-made.ensures (record { made = declares_none input_of IsInput c.args.inputs.now c.args.out.now c.requires.can c.requires.fresh })

pub one_input-requires : goal.one_input-requires
one_input-requires c =
    let h = c.loop-input.invariant.made in
    let inputs : List InPort = c.args.inputs.now in
    let at : slice_get inputs c.loop-input.input-index ≡ Some c.input-item.result = item_at inputs inputs c.loop-input.input-index c.input-item.result refl (omega arith) c.input-item.is in
    record { can = declares_next input_of IsInput inputs c.loop-input.input-index c.input-item.result c.args.out.now c.loop-input.out c.loop-input.made at h; fresh = h.fresh }

pub loop-input-preserved : goal.loop-input-preserved
loop-input-preserved c =
    let h = c.loop-input.invariant.made in
    let y = c.in_ok-wire.ensures in
    let inputs : List InPort = c.args.inputs.now in
    let at : slice_get inputs c.loop-input.input-index ≡ Some c.input-item.result = item_at inputs inputs c.loop-input.input-index c.input-item.result refl (omega arith) c.input-item.is in
    rw c.in_ok-push.ensures.ok (record { made = declares_more input_of IsInput (λ a b x w e k. IsPort-Extends e k) inputs c.loop-input.input-index c.input-item.result c.args.out.now c.loop-input.out c.one_input.new.out c.loop-input.made c.in_ok-wire.wire at h y.ok y.is y.fresh })

pub returns : goal.returns
returns c =
    let h = c.loop-input.invariant.made in
    record {
      ok = declares_all_out input_of IsInput c.args.inputs.now c.loop-input.input-index c.args.out.now c.loop-input.out c.loop-input.made (omega arith) h;
      is = declares_all_made input_of IsInput c.args.inputs.now c.loop-input.input-index c.args.out.now c.loop-input.out c.loop-input.made (omega arith) h;
      fresh = h.fresh;
    }
