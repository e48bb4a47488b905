use Rattle.std.proofs.Common.{◌≡◌, List, [], ◌∷◌, get_or, refl, sym, ap, subst, ◌∙◌, length, arith, Some}
use Rattle.std.specs.Prelude.{slice_get}
use Rattle.std.proofs.lemmas.Option.{slice_get-get_or}
use Rattle.ap_net.specs.declared.net.Port.{Port}
use Rattle.ap_net.proofs.Laws.{IsNet-Makes, IsNotNumbered-other}
use Rattle.ap_stage.specs.Placed.{PlacesUnit}
use Rattle.ap_signals.specs.NetRuns.{unit_part}
use Rattle.ap_slow.proofs.PlacedOne.{part_is_name}
use Rattle.ap_bank.specs.Placed.{IsFit}
use Rattle.ap_rest.proofs.IdleOne.{adds_made, first_width, fit_ports, places_idle, rests_zero}
use Rattle.ap_rest.proofs.idle.place_idle.Goals as goal

pub zero-requires-clause-low : goal.zero-requires-clause-low
zero-requires-clause-low c =
    let ports : List Port = c.ports-ports.result.now in
    let some = c.rules.ensures.ports in
    let long : length ports ≡ length c.args.whole.now.ports = ap length c.ports-ports.ensures in
    let p : Port = get_or ports 0 c.index-ports-0.result in
    let at : slice_get ports 0 ≡ Some p = slice_get-get_or ports 0 c.index-ports-0.result (omega arith) in
    let first = first_width c.args.whole.now ports p c.requires.has.select c.args.unit.now.width c.ports-ports.ensures c.requires.has.ports at in
    (subst IsFit (sym first) (fit_ports c.args.whole.now c.requires.has.select c.args.unit.now.width c.rules.ensures c.requires.has.ports).0).low

pub zero-requires-clause-high : goal.zero-requires-clause-high
zero-requires-clause-high c =
    let ports : List Port = c.ports-ports.result.now in
    let some = c.rules.ensures.ports in
    let long : length ports ≡ length c.args.whole.now.ports = ap length c.ports-ports.ensures in
    let p : Port = get_or ports 0 c.index-ports-0.result in
    let at : slice_get ports 0 ≡ Some p = slice_get-get_or ports 0 c.index-ports-0.result (omega arith) in
    let first = first_width c.args.whole.now ports p c.requires.has.select c.args.unit.now.width c.ports-ports.ensures c.requires.has.ports at in
    (subst IsFit (sym first) (fit_ports c.args.whole.now c.requires.has.select c.args.unit.now.width c.rules.ensures c.requires.has.ports).0).high

pub zero-requires-2-clause-fresh : goal.zero-requires-2-clause-fresh
zero-requires-2-clause-fresh c = c.in_ok-sel.ensures.makes.fresh c.requires.fresh

pub zero-requires-2-clause-low : goal.zero-requires-2-clause-low
zero-requires-2-clause-low c = (fit_ports c.args.whole.now c.requires.has.select c.args.unit.now.width c.rules.ensures c.requires.has.ports).1.low

pub zero-requires-2-clause-high : goal.zero-requires-2-clause-high
zero-requires-2-clause-high c = (fit_ports c.args.whole.now c.requires.has.select c.args.unit.now.width c.rules.ensures c.requires.has.ports).1.high

pub place_quick-requires-clause-is_name : goal.place_quick-requires-clause-is_name
place_quick-requires-clause-is_name c =
    let u = c.args.unit.now in
    let same : c.as_bytes.result.now ≡ unit_part u = c.as_bytes.ensures.value ∙ c.in_ok-name.ensures.ok ∙ ap (λ name. 117 ∷ 95 ∷ name) c.as_str.ensures.same in
    rw same (part_is_name u c.as_str.ensures.is_name)

pub place_quick-requires-clause-name : goal.place_quick-requires-clause-name
place_quick-requires-clause-name c =
    let u = c.args.unit.now in
    let same : c.as_bytes.result.now ≡ unit_part u = c.as_bytes.ensures.value ∙ c.in_ok-name.ensures.ok ∙ ap (λ name. 117 ∷ 95 ∷ name) c.as_str.ensures.same in
    let other = IsNotNumbered-other (unit_part u) refl in
    rw same (c.in_ok-operand.ensures.makes.names (unit_part u) other (c.in_ok-sel.ensures.makes.names (unit_part u) other c.requires.name))

pub place_quick-requires-clause-sel : goal.place_quick-requires-clause-sel
place_quick-requires-clause-sel c = IsNet-Makes c.zero.new.out c.zero-2.new.out c.in_ok-sel.sel c.in_ok-operand.ensures.makes c.in_ok-sel.ensures.zero.net

pub returns : goal.returns
returns c =
    let u = c.args.unit.now in
    let m = c.args.whole.now in
    let same : c.as_bytes.result.now ≡ unit_part u = c.as_bytes.ensures.value ∙ c.in_ok-name.ensures.ok ∙ ap (λ name. 117 ∷ 95 ∷ name) c.as_str.ensures.same in
    let sel = c.in_ok-sel.sel in
    let operand = c.in_ok-operand.operand in
    let y = c.in_ok-place_quick.field-0 in
    let start = c.args.out.now in
    let one = c.zero.new.out in
    let two = c.zero-2.new.out in
    let end = c.place_quick.new.out in
    let s = c.in_ok-sel.ensures in
    let o = c.in_ok-operand.ensures in
    places_idle u m sel operand y start one two end c.requires.fresh (adds_made start one c.requires.fresh s.yields.reads s.makes) (rests_zero start one _ sel s.zero s.yields)
    (adds_made one two (s.makes.fresh c.requires.fresh) o.yields.reads o.makes) (rests_zero one two _ operand o.zero o.yields) c.in_ok-place_quick.ensures.yields
    (subst (λ name. PlacesUnit name m (sel ∷ operand ∷ operand ∷ y ∷ []) two end) same c.in_ok-place_quick.ensures.places)
