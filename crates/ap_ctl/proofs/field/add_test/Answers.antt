use Rattle.std.proofs.Common.{◌≡◌, Bool, true, false, sym, ap, ◌∙◌, ◌++◌, ◌∷◌, [], List}
use Rattle.std.specs.Prelude.{if◌then◌else◌}
use Rattle.std.specs.List.{list_any}
use Rattle.ap_ctl.specs.declared.field.FieldTest.{FieldTest}
use Rattle.ap_ctl.specs.Decoding.{is_same_test}
use Rattle.ap_ctl.proofs.field.add_test.Goals as goal

pub returns-then-is_among : goal.returns-then-is_among
returns-then-is_among c =
    let tests : List FieldTest = c.args.tests.now in
    let e : true ≡ list_any (is_same_test c.args.test) tests = sym c.if-is_among.true ∙ c.is_among.ensures ∙ ap (list_any (is_same_test c.args.test)) c.as_slice.ensures in
    ap (λ (b : Bool). if b then tests else tests ++ c.args.test ∷ []) e

pub returns : goal.returns
returns c =
    let tests : List FieldTest = c.args.tests.now in
    let e : false ≡ list_any (is_same_test c.args.test) tests = sym c.if-is_among.false ∙ c.is_among.ensures ∙ ap (list_any (is_same_test c.args.test)) c.as_slice.ensures in
    c.in_ok-push.ensures.ok ∙ ap (λ (b : Bool). if b then tests else tests ++ c.args.test ∷ []) e
