use Rattle.std.proofs.Common.{◌≡◌, ◌<◌, false, length, map, Some, rules, sym, ap, subst, ◌∙◌}
use Rattle.std.specs.Prelude.{slice_get}
use Rattle.std.specs.String.{string_bytes}
use Rattle.std.proofs.lemmas.Option.{slice_get-get_or}
use Rattle.ap_net.specs.declared.net.Port.{Port}
use Rattle.ap_net.specs.Names.{IsNew}
use Rattle.ap_flat.specs.Dependence.{IsAskedBy}
use Rattle.ap_flat.proofs.Asking.{looks_there, none_is_output, none_placed}
use Rattle.ap_flat.proofs.NameLists.{place_low}
use Rattle.ap_flat.proofs.driver.asking.Goals as goal

pub returns-in_default-place-clause-none : goal.returns-in_default-place-clause-none
returns-in_default-place-clause-none c =
    let p = c.index-ports-number.result in
    let at : slice_get c.args.ports.now c.args.number ≡ Some p = slice_get-get_or c.args.ports.now c.args.number p c.requires.low ∙ ap Some (sym c.index-ports-number.is) in
    let asked : IsAskedBy p.name (string_bytes c.in-Some.asking) = subst (λ n. IsAskedBy n (string_bytes c.in-Some.asking)) c.as_str.ensures (rw c.in-Some.is at c.in_ok-asking.ensures.some) in
    let new : IsNew (string_bytes c.in-Some.asking) (map (λ (x : Port). x.name) c.args.ports.now) = rw (c.as_str-2.ensures.value, c.requires.names) at c.in_default-place.ensures in
    none_placed c.args.ports.now c.args.number p at (string_bytes c.in-Some.asking) asked new

pub offset_bounds-ports-place : goal.offset_bounds-ports-place
offset_bounds-ports-place c =
    let inside : c.in-Some-place.place < length c.args.ports.now = place_low (λ (x : Port). x.name) c.args.ports.now c.args.names.now _ c.in-Some-place.place c.requires.names c.in-Some-place.ensures in
    search rules

pub bounds-ports-place : goal.bounds-ports-place
bounds-ports-place c = place_low (λ (x : Port). x.name) c.args.ports.now c.args.names.now _ c.in-Some-place.place c.requires.names c.in-Some-place.ensures

pub bounds-ports-place-in-Some-place : goal.bounds-ports-place-in-Some-place
bounds-ports-place-in-Some-place c = place_low (λ (x : Port). x.name) c.args.ports.now c.args.names.now _ c.in-Some-place.place c.requires.names c.in-Some-place.ensures

pub returns-then-not-ports-place-clause-none : goal.returns-then-not-ports-place-clause-none
returns-then-not-ports-place-clause-none c =
    let p = c.index-ports-number.result in
    let q = c.index-ports-place.result in
    let place = c.in-Some-place.place in
    let inside : place < length c.args.ports.now = place_low (λ (x : Port). x.name) c.args.ports.now c.args.names.now _ place c.requires.names c.in-Some-place.ensures in
    let at : slice_get c.args.ports.now c.args.number ≡ Some p = slice_get-get_or c.args.ports.now c.args.number p c.requires.low ∙ ap Some (sym c.index-ports-number.is) in
    let there : slice_get c.args.ports.now place ≡ Some q = slice_get-get_or c.args.ports.now place q inside ∙ ap Some (sym c.index-ports-place.is) in
    let asked : IsAskedBy p.name (string_bytes c.in-Some.asking) = subst (λ n. IsAskedBy n (string_bytes c.in-Some.asking)) c.as_str.ensures (rw c.in-Some.is at c.in_ok-asking.ensures.some) in
    let named : slice_get (map (λ (x : Port). x.name) c.args.ports.now) place ≡ Some (string_bytes c.in-Some.asking) = rw (c.as_str-2.ensures.value, c.requires.names) at c.in-Some-place.ensures in
    none_is_output c.args.ports.now c.args.number p at (string_bytes c.in-Some.asking) asked place q named there c.requires.distinct (ap (λ (x : Port). x.output) c.index-ports-place.is ∙ c.if-not-ports-place.true)

pub returns-clause-some : goal.returns-clause-some
returns-clause-some c =
    let p = c.index-ports-number.result in
    let q = c.index-ports-place.result in
    let place = c.in-Some-place.place in
    let inside : place < length c.args.ports.now = place_low (λ (x : Port). x.name) c.args.ports.now c.args.names.now _ place c.requires.names c.in-Some-place.ensures in
    let at : slice_get c.args.ports.now c.args.number ≡ Some p = slice_get-get_or c.args.ports.now c.args.number p c.requires.low ∙ ap Some (sym c.index-ports-number.is) in
    let there : slice_get c.args.ports.now place ≡ Some q = slice_get-get_or c.args.ports.now place q inside ∙ ap Some (sym c.index-ports-place.is) in
    let asked : IsAskedBy p.name (string_bytes c.in-Some.asking) = subst (λ n. IsAskedBy n (string_bytes c.in-Some.asking)) c.as_str.ensures (rw c.in-Some.is at c.in_ok-asking.ensures.some) in
    let named : slice_get (map (λ (x : Port). x.name) c.args.ports.now) place ≡ Some (string_bytes c.in-Some.asking) = rw (c.as_str-2.ensures.value, c.requires.names) at c.in-Some-place.ensures in
    let enters : p.output ≡ false = cc in
    looks_there c.args.ports.now c.args.number p at (string_bytes c.in-Some.asking) asked place q named there enters (ap (λ (x : Port). x.output) c.index-ports-place.is ∙ c.if-not-ports-place.false)
