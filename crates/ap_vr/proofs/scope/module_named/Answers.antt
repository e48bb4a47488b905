use Rattle.std.proofs.Common.{◌≡◌, ◌<◌, ◌∙◌, Some, ap, arith, length, sym}
use Rattle.std.proofs.lemmas.List.{get_or-map, length-map}
use Rattle.std.specs.Borrow.{Bor}
use Rattle.ap_vr.specs.declared.module.NamedModule.{NamedModule}
use Rattle.ap_vr.specs.Tables.{listed}
use Rattle.ap_vr.proofs.Scoping.{module_at, module_nowhere, module_within}
use Rattle.ap_vr.proofs.scope.module_named.Goals as goal

pub bounds-modules-place : goal.bounds-modules-place
bounds-modules-place c =
    let low : c.in-Some.place < length (listed c.args.modules.now) = module_within (listed c.args.modules.now) c.args.names.now c.args.name.now c.in-Some.place c.requires (sym c.place.ensures ∙ c.in-Some.is) in
    let long : length (listed c.args.modules.now) ≡ length c.args.modules.now = length-map c.args.modules.now (λ (m : Bor NamedModule). m.now) in
    omega (arith, low, long)

pub returns-in-Some : goal.returns-in-Some
returns-in-Some c =
    let x : Bor NamedModule = c.index-modules-place.result in
    let low : c.in-Some.place < length (listed c.args.modules.now) = module_within (listed c.args.modules.now) c.args.names.now c.args.name.now c.in-Some.place c.requires (sym c.place.ensures ∙ c.in-Some.is) in
    let long : length (listed c.args.modules.now) ≡ length c.args.modules.now = length-map c.args.modules.now (λ (m : Bor NamedModule). m.now) in
    sym (module_at (listed c.args.modules.now) c.args.names.now c.args.name.now c.in-Some.place x.now c.requires (sym c.place.ensures ∙ c.in-Some.is)
    ∙ ap Some (get_or-map (λ (m : Bor NamedModule). m.now) c.args.modules.now c.in-Some.place x x.now (omega (arith, low, long)) ∙ ap (λ (m : Bor NamedModule). m.now) (sym c.index-modules-place.is)))

pub returns-in-None : goal.returns-in-None
returns-in-None c = sym (module_nowhere (listed c.args.modules.now) c.args.names.now c.args.name.now c.requires (sym c.place.ensures ∙ c.in-None.is))
