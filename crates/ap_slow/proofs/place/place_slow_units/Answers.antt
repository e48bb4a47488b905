use Rattle.std.proofs.Common.{◌≡◌, [], List, length, sym, ap, subst, ◌∙◌, arith, Some}
use Rattle.std.specs.Prelude.{slice_get}
use Rattle.std.proofs.lemmas.Bool.{ltb-true}
use Rattle.ap_desc.specs.declared.design.Unit.{Unit as Resource}
use Rattle.ap_ctl.proofs.Beside.{item_at}
use Rattle.ap_slow.specs.Placed.{PlacesUnits}
use Rattle.ap_slow.proofs.PlacedAll.{more_kept, more_placed, name_new, placed_none, slow_before}
use Rattle.ap_slow.proofs.place.place_slow_units.Goals as goal
use Rattle.ap_slow.proofs.place.place_slow_units.Goals.{then-is_slow+in_ok-placed+in_ok-push, else-is_slow}

pub loop-number-init : goal.loop-number-init
loop-number-init c = subst (λ l. PlacesUnits c.args.design.now c.args.modules.now c.args.places.now [] l c.args.out.now c.args.out.now) (sym c.new-made.ensures) (placed_none c.args.design.now c.args.modules.now c.args.places.now c.args.out.now c.requires.fresh)

pub place_own-requires-clause-name : goal.place_own-requires-clause-name
place_own-requires-clause-name c =
    let items : List Resource = c.as_slice-unit-items.result.now in
    let n = c.loop-number.number in
    let u : Resource = c.unit-item.result in
    let at : slice_get c.args.design.now.units n ≡ Some u = item_at items c.args.design.now.units n u c.as_slice-unit-items.ensures (omega arith) c.unit-item.is in
    name_new c.args.design.now c.args.modules.now c.args.places.now c.loop-number.made n u c.args.out.now c.loop-number.out c.requires.clean c.loop-number.invariant c.requires.names at

pub place_own-requires-clause-has : goal.place_own-requires-clause-has
place_own-requires-clause-has c =
    let items : List Resource = c.as_slice-unit-items.result.now in
    let n = c.loop-number.number in
    let u : Resource = c.unit-item.result in
    let at : slice_get c.args.design.now.units n ≡ Some u = item_at items c.args.design.now.units n u c.as_slice-unit-items.ensures (omega arith) c.unit-item.is in
    c.requires.modules n u at (ltb-true 1 u.latency (sym c.is_slow.ensures ∙ c.if-is_slow.true))

pub loop-number-preserved : goal.loop-number-preserved
loop-number-preserved c =
    let items : List Resource = c.as_slice-unit-items.result.now in
    let n = c.loop-number.number in
    let u : Resource = c.unit-item.result in
    let at : slice_get c.args.design.now.units n ≡ Some u = item_at items c.args.design.now.units n u c.as_slice-unit-items.ensures (omega arith) c.unit-item.is in
    elim c.if-is_slow.branch [
      | then-is_slow+in_ok-placed+in_ok-push w ↦ rw (w.made-is, w.out-is, w.in_ok-push.ensures.ok) (more_placed c.args.design.now c.args.modules.now c.args.places.now c.loop-number.made w.in_ok-placed.placed n u c.args.out.now c.loop-number.out w.place_own.new.out c.loop-number.invariant
          w.in_ok-placed.ensures.number at (sym c.is_slow.ensures ∙ w.if-is_slow.true) w.in_ok-placed.ensures.places)
      | else-is_slow w ↦ rw (w.made-is, w.out-is) (more_kept c.args.design.now c.args.modules.now c.args.places.now c.loop-number.made n u c.args.out.now c.loop-number.out c.loop-number.invariant at (sym c.is_slow.ensures ∙ w.if-is_slow.false))
    ]

pub returns : goal.returns
returns c =
    let items : List Resource = c.as_slice-unit-items.result.now in
    let long : length items ≡ length c.args.design.now.units = ap length c.as_slice-unit-items.ensures in
    let all : c.loop-number.number ≡ length c.args.design.now.units = omega arith in
    subst (λ n. PlacesUnits c.args.design.now c.args.modules.now c.args.places.now (slow_before c.args.design.now n) c.loop-number.made c.args.out.now c.loop-number.out) all c.loop-number.invariant
