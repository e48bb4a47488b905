use Rattle.std.proofs.Common.{◌≡◌, List, length, sym, ap, subst, ◌∙◌, arith, Some}
use Rattle.std.specs.Prelude.{slice_get}
use Rattle.ap_desc.specs.declared.design.Unit.{Unit as Resource}
use Rattle.ap_ctl.proofs.Beside.{item_at}
use Rattle.ap_rest.specs.Idle.{IdlesUnits}
use Rattle.ap_rest.proofs.IdleAll.{idle_before, idle_quick, idles_none, more_kept, more_placed, name_new}
use Rattle.ap_rest.proofs.idle.idle_units.Goals as goal
use Rattle.ap_rest.proofs.idle.idle_units.Goals.{then-is_idle+in_ok-place_own, else-is_idle}

pub loop-number-init : goal.loop-number-init
loop-number-init c = idles_none c.args.design.now c.args.modules.now c.args.places.now c.args.out.now c.requires.fresh

pub is_idle-requires : goal.is_idle-requires
is_idle-requires c = item_at c.as_slice-unit-items.result.now c.args.design.now.units c.loop-number.number c.unit-item.result c.as_slice-unit-items.ensures (omega arith) c.unit-item.is

pub place_own-requires-clause-name : goal.place_own-requires-clause-name
place_own-requires-clause-name c =
    let items : List Resource = c.as_slice-unit-items.result.now in
    let n = c.loop-number.number in
    let u : Resource = c.unit-item.result in
    let at : slice_get c.args.design.now.units n ≡ Some u = item_at items c.args.design.now.units n u c.as_slice-unit-items.ensures (omega arith) c.unit-item.is in
    name_new c.args.design.now c.args.modules.now c.args.places.now n u c.args.out.now c.loop-number.out c.requires.clean c.loop-number.invariant c.requires.names at (sym c.is_idle.ensures ∙ c.if-is_idle.true)

pub place_own-requires-clause-has : goal.place_own-requires-clause-has
place_own-requires-clause-has c =
    let items : List Resource = c.as_slice-unit-items.result.now in
    let n = c.loop-number.number in
    let u : Resource = c.unit-item.result in
    let at : slice_get c.args.design.now.units n ≡ Some u = item_at items c.args.design.now.units n u c.as_slice-unit-items.ensures (omega arith) c.unit-item.is in
    c.requires.modules n u at (idle_quick c.args.design.now n u at (sym c.is_idle.ensures ∙ c.if-is_idle.true))

pub loop-number-preserved : goal.loop-number-preserved
loop-number-preserved c =
    let items : List Resource = c.as_slice-unit-items.result.now in
    let n = c.loop-number.number in
    let u : Resource = c.unit-item.result in
    let at : slice_get c.args.design.now.units n ≡ Some u = item_at items c.args.design.now.units n u c.as_slice-unit-items.ensures (omega arith) c.unit-item.is in
    elim c.if-is_idle.branch [
      | then-is_idle+in_ok-place_own w ↦ rw w.out-is (more_placed c.args.design.now c.args.modules.now c.args.places.now n u c.args.out.now c.loop-number.out w.place_own.new.out c.loop-number.invariant at (sym c.is_idle.ensures ∙ w.if-is_idle.true) w.in_ok-place_own.ensures)
      | else-is_idle w ↦ rw w.out-is (more_kept c.args.design.now c.args.modules.now c.args.places.now n c.args.out.now c.loop-number.out c.loop-number.invariant (sym c.is_idle.ensures ∙ w.if-is_idle.false))
    ]

pub returns : goal.returns
returns c =
    let items : List Resource = c.as_slice-unit-items.result.now in
    let long : length items ≡ length c.args.design.now.units = ap length c.as_slice-unit-items.ensures in
    let all : c.loop-number.number ≡ length c.args.design.now.units = omega arith in
    subst (λ n. IdlesUnits c.args.design.now c.args.modules.now c.args.places.now (idle_before c.args.design.now n) c.args.out.now c.loop-number.out) all c.loop-number.invariant
