use Rattle.std.proofs.Common.{◌≡◌, Bool, ◌-◌, ◌∷◌, [], List, ℕ, Some, get_or, length, sym, ap, ◌∙◌, arith}
use Rattle.std.specs.Prelude.{slice_get, ◌&&◌}
use Rattle.std.specs.List.{list_any}
use Rattle.std.proofs.lemmas.Option.{slice_get-get_or}
use Rattle.ap_net.specs.declared.cell.Cell.TheVariants as cell
use Rattle.ap_net.specs.declared.cell.Wire.{Wire}
use Rattle.ap_net.specs.Readings.{Reading}
use Rattle.ap_net.specs.Ready.{numbers}
use Rattle.ap_net.proofs.Laws.{Extends-trans}
use Rattle.ap_ctl.specs.Building.{IsBit, is_on}
use Rattle.ap_ctl.proofs.Beside.{each_get, item_at, no_wire}
use Rattle.ap_ctl.proofs.Built.{IsBit-Extends}
use Rattle.ap_slow.specs.Asking.{user_conditions}
use Rattle.ap_slow.specs.Driven.{asking}
use Rattle.ap_slow.proofs.DrivenOne.{adv_tells, asked_in, drives_built, drives_cell, drives_from, drives_more, go_follows, go_tells, late_net, tells_later}
use Rattle.ap_slow.proofs.drive.drive_used.Goals as goal

pub cell-requires-2-clause-fits : goal.cell-requires-2-clause-fits
cell-requires-2-clause-fits c =
    let a = c.args.out.now in
    let holds : List Wire = c.as_slice-holds.result.now in
    let hold : Wire = get_or c.as_slice-holds.result.now 0 no_wire in
    let some = c.requires.there.some in
    let at : slice_get c.args.nets.now.hold 0 ≡ Some hold = ap (λ (l : List Wire). slice_get l 0) (sym c.as_slice-holds.ensures) ∙ slice_get-get_or holds 0 no_wire (rw c.as_slice-holds.ensures some) in
    let h : IsBit a.nets hold = each_get (IsBit a.nets) c.args.nets.now.hold 0 hold c.requires.there.hold at in
    let e = Extends-trans _ _ _ c.in_ok-asks.ensures.gives.builds.reads.extends c.in_ok-cell.ensures.drives.extends in
    let k = IsBit-Extends a c.cell.new.self hold e h in
    (k.net, k.bit ∙ sym c.requires.bits.1)

pub returns-clause-driven : goal.returns-clause-driven
returns-clause-driven c =
    let a = c.args.out.now in
    let nets = c.args.nets.now in
    let holds : List Wire = c.as_slice-holds.result.now in
    let hold : Wire = get_or c.as_slice-holds.result.now 0 no_wire in
    let some = c.requires.there.some in
    let place = c.args.stage - 1 in
    let hold_at : slice_get nets.hold 0 ≡ Some hold = ap (λ (l : List Wire). slice_get l 0) (sym c.as_slice-holds.ensures) ∙ slice_get-get_or holds 0 no_wire (rw c.as_slice-holds.ensures some) in
    let valids : List Wire = c.as_slice-valids.result.now in
    let valid : Wire = get_or c.as_slice-valids.result.now (c.args.stage - 1) no_wire in
    let vc = c.requires.there.valid_count in
    let dc = c.requires.there.decoded_count in
    let vl : length valids ≡ length nets.valid = ap length c.as_slice-valids.ensures in
    let dl : length c.as_slice-decoded.result.now ≡ length nets.decoded = ap length c.as_slice-decoded.ensures in
    let low = c.requires.low in
    let high = c.requires.high in
    let valid_at : slice_get nets.valid place ≡ Some valid = ap (λ (l : List Wire). slice_get l place) (sym c.as_slice-valids.ensures) ∙ slice_get-get_or valids place no_wire (omega arith) in
    let conditions : List Wire = c.index-decoded-place.result in
    let conditions_at : slice_get nets.decoded place ≡ Some conditions = item_at c.as_slice-decoded.result.now nets.decoded place conditions c.as_slice-decoded.ensures (omega arith) c.index-decoded-place.is in
    let y = c.in_ok-asks.ensures in
    let go = c.in_ok-cell.ensures in
    let adv = c.in_ok-cell-2.ensures in
    let e1 = y.gives.builds.reads.extends in
    let e2 = go.drives.extends in
    let e3 = adv.drives.extends in
    let e23 = Extends-trans _ _ _ e2 e3 in
    let x = c.args.placed in
    let go_net = late_net x.inputs.go (cell.Copy c.in_ok-asks.asks) c.asks_unit.new.out c.cell.new.self go.ok (y.gives.builds.reads.late x.inputs.go c.requires.go) in
    let adv_net = late_net x.inputs.adv (cell.Not hold) c.cell.new.self c.cell-2.new.self adv.ok (go.drives.late x.inputs.adv c.requires.apart (y.gives.builds.reads.late x.inputs.adv c.requires.adv)) in
    let held : IsBit a.nets hold = each_get (IsBit a.nets) nets.hold 0 hold c.requires.there.hold hold_at in
    let fact : Reading → Bool = λ r. is_on r valid && list_any (is_on r) (user_conditions c.args.stage x.unit c.args.design.now.instrs conditions) in
    let asks = rw (c.as_slice-conditions.ensures, c.as_slice-instrs.ensures) at y in
    let tells = go_tells fact c.asks_unit.new.out c.cell.new.self x.inputs.go c.in_ok-asks.asks e2 c.requires.bits.0 go_net asks.tells go.value in
    record {
      valid = valid;
      valid_at = valid_at;
      conditions = conditions;
      conditions_at = conditions_at;
      hold = hold;
      hold_at = hold_at;
      go = tells_later fact c.cell.new.self c.cell-2.new.self x.inputs.go e3 tells;
      go_ready = λ by. go_follows by nets (valid.number ∷ numbers conditions) a c.asks_unit.new.out c.cell.new.self c.cell-2.new.self c.in_ok-asks.asks x.inputs.go asks.gives (asked_in nets place valid conditions valid_at conditions_at) e2 e3 (go.drives.came by);
      adv = adv_tells c.cell.new.self c.cell-2.new.self x.inputs.adv hold e3 c.requires.bits.1 adv_net (IsBit-Extends a c.cell-2.new.self hold (Extends-trans _ _ _ e1 e23) held) adv.value;
      adv_ready = adv.drives.came;
    }

pub returns-clause-drives : goal.returns-clause-drives
returns-clause-drives c =
    let a = c.args.out.now in
    let nets = c.args.nets.now in
    let place = c.args.stage - 1 in
    let valids : List Wire = c.as_slice-valids.result.now in
    let valid : Wire = get_or c.as_slice-valids.result.now (c.args.stage - 1) no_wire in
    let vc = c.requires.there.valid_count in
    let dc = c.requires.there.decoded_count in
    let vl : length valids ≡ length nets.valid = ap length c.as_slice-valids.ensures in
    let dl : length c.as_slice-decoded.result.now ≡ length nets.decoded = ap length c.as_slice-decoded.ensures in
    let low = c.requires.low in
    let high = c.requires.high in
    let valid_at : slice_get nets.valid place ≡ Some valid = ap (λ (l : List Wire). slice_get l place) (sym c.as_slice-valids.ensures) ∙ slice_get-get_or valids place no_wire (omega arith) in
    let conditions : List Wire = c.index-decoded-place.result in
    let conditions_at : slice_get nets.decoded place ≡ Some conditions = item_at c.as_slice-decoded.result.now nets.decoded place conditions c.as_slice-decoded.ensures (omega arith) c.index-decoded-place.is in
    let y = rw (c.as_slice-conditions.ensures, c.as_slice-instrs.ensures) at c.in_ok-asks.ensures in
    let go = c.in_ok-cell.ensures in
    let adv = c.in_ok-cell-2.ensures in
    let x = c.args.placed in
    let from : List ℕ = valid.number ∷ numbers conditions in
    let one = drives_built from a c.asks_unit.new.out y.gives.builds in
    let two = drives_more [] (x.inputs.go.number ∷ []) from from _ _ _ one (drives_cell x.inputs.go (cell.Copy c.in_ok-asks.asks) _ from _ c.cell.new.self one.fresh go.ok go.drives) (λ P k. k) in
    let three = drives_more (x.inputs.go.number ∷ []) (x.inputs.adv.number ∷ []) from from _ _ _ two (drives_cell x.inputs.adv (cell.Not (get_or c.as_slice-holds.result.now 0 no_wire)) _ from _ c.cell-2.new.self two.fresh adv.ok adv.drives) (λ P k. k) in
    drives_from (x.inputs.go.number ∷ x.inputs.adv.number ∷ []) (asking nets) from _ _ three (asked_in nets place valid conditions valid_at conditions_at)
