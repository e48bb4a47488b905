use Rattle.std.proofs.Common.{[], ◌∷◌, ◌++◌, ◌<◌, length, take, sym, ap, subst, ◌∙◌, arith}
use Rattle.std.specs.Prelude.{Some}
use Rattle.std.proofs.lemmas.List.{take_more}
use Rattle.ap_desc.specs.declared.design.Unit.{Unit as Resource}
use Rattle.ap_ctl.specs.Lists.{EachPair}
use Rattle.ap_ctl.proofs.Beside.{EachPair-push}
use Rattle.ap_parts.specs.Parts.{StandsAt, kind_of, with_kind}
use Rattle.ap_parts.proofs.KindLists.{all_stay, kinds_of-push}
use Rattle.ap_parts.proofs.modules.kind_places.Goals as goal

pub loop-unit-preserved : goal.loop-unit-preserved
loop-unit-preserved c =
    let inside : c.loop-unit.unit-index < length c.args.units.now = omega arith in
    let u = c.unit-item.result in
    let front = take c.loop-unit.unit-index c.args.units.now in
    let more = take_more c.args.units.now c.loop-unit.unit-index u inside ∙ ap (λ (v : Resource). front ++ v ∷ []) (sym c.unit-item.is) in
    let h = c.loop-unit.invariant in
    let y = c.in_ok-place.ensures in
    let grown = y.kinds ∙ ap (with_kind c.loop-unit.kinds) c.kind_of.ensures in
    rw (c.in_ok-push.ensures.ok, more) (record {
      kinds = grown ∙ ap (λ ks. with_kind ks (kind_of u)) h.kinds ∙ sym (kinds_of-push [] front u);
      places = EachPair-push (StandsAt c.add_kind.new.kinds) front c.loop-unit.places u c.in_ok-place.place
          (subst (λ ks. EachPair (StandsAt ks) front c.loop-unit.places) (sym grown) (all_stay c.loop-unit.kinds (kind_of u) front c.loop-unit.places h.places)) (y.place ∙ ap Some c.kind_of.ensures);
    })
