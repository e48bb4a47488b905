use Rattle.std.proofs.Common.{◌≡◌, ◌∷◌, List, get_or, refl, sym, ap, subst, ◌∙◌, length, arith, Some}
use Rattle.std.specs.Prelude.{slice_get}
use Rattle.std.proofs.lemmas.Option.{slice_get-get_or}
use Rattle.ap_net.specs.declared.net.Port.{Port}
use Rattle.ap_net.proofs.Laws.{IsNotNumbered-other}
use Rattle.ap_signals.specs.NetRuns.{unit_part}
use Rattle.ap_slow.specs.declared.place.SlowPlaced.{SlowPlaced}
use Rattle.ap_slow.specs.Placed.{IsFit}
use Rattle.ap_slow.proofs.PlacedOne.{first_width, fit_ports, part_is_name, places_unit}
use Rattle.ap_slow.proofs.place.place_unit.Goals as goal

pub late_inputs-requires-clause-select : goal.late_inputs-requires-clause-select
late_inputs-requires-clause-select c =
    let ports : List Port = c.ports-ports.result.now in
    let some = c.rules.ensures.ports in
    let long : length ports ≡ length c.args.whole.now.ports = ap length c.ports-ports.ensures in
    let p : Port = get_or ports 0 c.index-ports-0.result in
    let at : slice_get ports 0 ≡ Some p = slice_get-get_or ports 0 c.index-ports-0.result (omega arith) in
    let first = first_width c.args.whole.now ports p c.requires.has.select c.args.unit.now.width c.ports-ports.ensures c.requires.has.ports at in
    subst IsFit (sym first) (fit_ports c.args.whole.now c.requires.has.select c.args.unit.now.width c.rules.ensures c.requires.has.ports).0

pub place_slow-requires-clause-is_name : goal.place_slow-requires-clause-is_name
place_slow-requires-clause-is_name c =
    let u = c.args.unit.now in
    let same : c.as_bytes.result.now ≡ unit_part u = c.as_bytes.ensures.value ∙ c.in_ok-name.ensures.ok ∙ ap (λ name. 117 ∷ 95 ∷ name) c.as_str.ensures.same in
    rw same (part_is_name u c.as_str.ensures.is_name)

pub place_slow-requires-clause-name : goal.place_slow-requires-clause-name
place_slow-requires-clause-name c =
    let u = c.args.unit.now in
    let same : c.as_bytes.result.now ≡ unit_part u = c.as_bytes.ensures.value ∙ c.in_ok-name.ensures.ok ∙ ap (λ name. 117 ∷ 95 ∷ name) c.as_str.ensures.same in
    rw same (c.in_ok-inputs.ensures.adds.names (unit_part u) (IsNotNumbered-other (unit_part u) refl) tt c.requires.name)

pub returns-clause-places : goal.returns-clause-places
returns-clause-places c =
    let u = c.args.unit.now in
    let m = c.args.whole.now in
    let same : c.as_bytes.result.now ≡ unit_part u = c.as_bytes.ensures.value ∙ c.in_ok-name.ensures.ok ∙ ap (λ name. 117 ∷ 95 ∷ name) c.as_str.ensures.same in
    let ports : List Port = c.ports-ports.result.now in
    let some = c.rules.ensures.ports in
    let long : length ports ≡ length m.ports = ap length c.ports-ports.ensures in
    let p : Port = get_or ports 0 c.index-ports-0.result in
    let at : slice_get ports 0 ≡ Some p = slice_get-get_or ports 0 c.index-ports-0.result (omega arith) in
    let first = first_width m ports p c.requires.has.select u.width c.ports-ports.ensures c.requires.has.ports at in
    let l = rw first at c.in_ok-inputs.ensures in
    let y = rw same at c.in_ok-outputs.ensures in
    let x : SlowPlaced = record { unit = c.args.number; inputs = c.in_ok-inputs.inputs; outputs = c.in_ok-outputs.outputs } in
    places_unit u m x c.requires.has.select c.args.out.now c.late_inputs.new.out c.place_slow.new.out l c.requires.has.ports y.outputs y.nets y.long y.busy y.y y.joins y.connects y.places
