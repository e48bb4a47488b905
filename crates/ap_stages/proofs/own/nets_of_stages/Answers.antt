use Rattle.std.proofs.Common.{◌<◌, Some, length, refl, sym, ap, subst, ◌∙◌, arith}
use Rattle.ap_ports.proofs.Members.{item_at}
use Rattle.ap_stages.proofs.Owning.{NetsSoFar, nets_more}
use Rattle.ap_stages.proofs.own.nets_of_stages.Goals as goal

pub loop-place-init : goal.loop-place-init
loop-place-init c = subst (λ l. NetsSoFar c.args.registers.now c.args.decoded.now 0 l) (sym c.new-owns.ensures.items) (record { long = refl; each = λ place r conditions own r_at cs_at at. absurd cc })

pub loop-place-preserved : goal.loop-place-preserved
loop-place-preserved c =
    let place = c.loop-place.place in
    let low = c.loop-place-test.true in
    let many = c.requires in
    let inside : place < length c.args.decoded.now = omega (arith, low, many) in
    let r_at = item_at c.args.registers.now c.args.registers.now place c.index-registers-place.result refl low c.index-registers-place.is in
    let cs_at = item_at c.args.decoded.now c.args.decoded.now place c.index-decoded-place.result refl inside c.index-decoded-place.is ∙ ap Some (sym c.as_slice.ensures) in
    nets_more c.args.registers.now c.args.decoded.now place c.loop-place.owns.items c.push.new.self.items c.index-registers-place.result c.as_slice.result.now c.in_ok-own.own c.loop-place.invariant r_at cs_at c.in_ok-own.ensures c.in_ok-push.ensures.items

pub returns : goal.returns
returns c =
    let end = c.loop-place-test.false in
    record { long = c.loop-place.invariant.long ∙ omega arith; each = c.loop-place.invariant.each }
