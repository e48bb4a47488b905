use Rattle.std.proofs.Common.{◌≡◌, List, Some, length, refl, sym, ap, ◌∙◌, arith}
use Rattle.std.specs.Prelude.{slice_get}
use Rattle.std.proofs.lemmas.Option.{slice_get_within}
use Rattle.ap_flight.specs.declared.entry.Leaving.{Leaving}
use Rattle.ap_flight.specs.declared.stage.Coming.{Coming}
use Rattle.ap_flight.specs.declared.stage.StageRegisters.{StageRegisters}
use Rattle.ap_flight.proofs.AllPlans.{item_at}
use Rattle.ap_front.proofs.Comings.{all_come, none_come, one_comes, reached_place, reached_word}
use Rattle.ap_front.proofs.coming.comings.Goals as goal

pub loop-number-init : goal.loop-number-init
loop-number-init c = rw c.new-made.ensures (record { made = none_come c.args.registers.now c.args.idata c.args.hold c.args.locals.now; word = refl; place = refl })

pub loop-number-preserved : goal.loop-number-preserved
loop-number-preserved c =
    let r = c.args.registers.now in
    let locals : List (List Leaving) = c.args.locals.now in
    let h = c.loop-number.invariant in
    let n = c.loop-number.number in
    let items : List StageRegisters = c.as_slice-stage-items.result.now in
    let s : StageRegisters = c.stage-item.result in
    let same : items ≡ r.stages = c.as_slice-stage-items.ensures in
    let at : slice_get r.stages n ≡ Some s = item_at items r.stages n s same (omega arith) c.stage-item.is in
    let inside = slice_get_within r.stages n s at in
    let long = c.requires in
    let k : Coming = c.in_ok-coming.coming in
    let y = c.in_ok-coming.ensures in
    let l : List Leaving = c.index-locals-number.result in
    let there : slice_get locals n ≡ Some l = item_at locals locals n l refl (omega arith) c.index-locals-number.is in
    let left : slice_get locals n ≡ Some k.locals = there ∙ ap Some (sym (ap (λ (x : Coming). x.locals) y ∙ c.as_slice.ensures)) in
    record {
      made = rw c.in_ok-push.ensures.ok (one_comes r c.args.idata c.args.hold locals n c.loop-number.made k h.made (ap (λ (x : Coming). x.hold) y) left (ap (λ (x : Coming). x.word) y ∙ h.word) (ap (λ (x : Coming). x.place) y ∙ h.place));
      word = reached_word r c.args.idata n s at;
      place = reached_place r n s at;
    }

pub returns : goal.returns
returns c =
    let r = c.args.registers.now in
    let long : length c.as_slice-stage-items.result.now ≡ length r.stages = ap length c.as_slice-stage-items.ensures in
    all_come r c.args.idata c.args.hold c.args.locals.now c.loop-number.number c.loop-number.made (omega arith) c.loop-number.invariant.made
