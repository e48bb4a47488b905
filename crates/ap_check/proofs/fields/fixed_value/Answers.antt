use Rattle.std.proofs.Common.{◌≡◌, ℕ, List, Some, option_map, false, sym, ap, subst, ◌∙◌}
use Rattle.std.specs.Prelude.{slice_get}
use Rattle.ap_desc.specs.Parts.{place_of}
use Rattle.ap_desc.specs.Reserved.{is_among}
use Rattle.ap_desc.specs.Spelling.{field_names}
use Rattle.ap_desc.specs.declared.statement.FieldNumber.{FieldNumber}
use Rattle.ap_check.proofs.NameLists.{at_place, got_some, none_named}
use Rattle.ap_check.proofs.fields.fixed_value.Goals as goal

pub returns-in-Some-get : goal.returns-in-Some-get
returns-in-Some-get c =
    let found = c.in-Some-get.ensures.lookup in
    let got : slice_get c.args.fixed.now c.in-Some.place ≡ Some c.in-Some-get.f.now = got_some c.args.fixed.now c.in-Some.place c.in-Some-get.f.now found.3.0 found.1 in
    let text : c.in-Some.place ≡ place_of c.args.names.now c.as_str.result.now = c.in-Some.ensures.1 in
    let here : c.in-Some.place ≡ place_of (field_names c.args.fixed.now) c.args.field.now.name =
    text ∙ ap (λ (ns : List (List ℕ)). place_of ns c.as_str.result.now) c.requires ∙ ap (place_of (field_names c.args.fixed.now)) c.as_str.ensures.same in
    ap (option_map (λ (f : FieldNumber). f.number))
    (sym got ∙ ap (slice_get c.args.fixed.now) here ∙ at_place (λ (f : FieldNumber). f.field) c.args.fixed.now c.args.field.now.name)

pub returns-in-None : goal.returns-in-None
returns-in-None c =
    let gone : is_among c.as_str.result.now c.args.names.now ≡ false = c.in-None.ensures in
    let named : is_among c.args.field.now.name (field_names c.args.fixed.now) ≡ false =
    subst (λ (ns : List (List ℕ)). is_among c.args.field.now.name ns ≡ false) c.requires (subst (λ (t : List ℕ). is_among t c.args.names.now ≡ false) c.as_str.ensures.same gone) in
    sym (ap (option_map (λ (f : FieldNumber). f.number)) (none_named (λ (f : FieldNumber). f.field) c.args.fixed.now c.args.field.now.name named))
